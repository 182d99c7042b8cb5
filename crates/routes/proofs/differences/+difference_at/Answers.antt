-- The needs of `difference_at`.
use Rattle.std.proofs.Common.{◌≡◌, ℕ, ◌+◌, ◌-◌, ◌*◌, ◌^◌, ◌≤◌, get_or, ◌-ℤ◌, nat_abs, sym, ap, ◌∙◌, le_trans, le_of_eq, arith, w64, to_z, of_z}
use Rattle.std.proofs.lemmas.Int.{to_z-of_z, to_z_pos}
use Rattle.weights.specs.Differences.{Δ}
use Rattle.routes.proofs.Bits.{fits_known, read_known}
use Rattle.routes.proofs.Deltas.{Δ-first, Δ-step, Δ_small}
use Rattle.routes.proofs.differences.+difference_at.Goals as goal

-- the two lower differences, read back from their bits
module _ (t : ℕ) (c : goal.After-difference_at-else-order-eq0 t) where
  abbrev f : ℕ → ℕ
  f = λ i. get_or c.args.shares.now.twentieths i 0

  abbrev j : ℕ
  j = c.args.order

  further : to_z w64 (of_z w64 c.difference_at.result) ≡ Δ (j - 1) f (c.args.k + 1)
  further = to_z-of_z w64 c.difference_at.result (record { sfits = c.difference_at.type_inv }) ∙ c.difference_at.ensures

  here : to_z w64 (of_z w64 c.difference_at-else-order-eq0.result) ≡ Δ (j - 1) f c.args.k
  here = to_z-of_z w64 c.difference_at-else-order-eq0.result (record { sfits = c.difference_at-else-order-eq0.type_inv }) ∙ c.difference_at-else-order-eq0.ensures

  step : Δ j f c.args.k ≡ Δ (j - 1) f (c.args.k + 1) -ℤ Δ (j - 1) f c.args.k
  step = Δ-step j f c.args.k (omega arith)

  small : nat_abs (Δ (j - 1) f (c.args.k + 1) -ℤ Δ (j - 1) f c.args.k) ≤ 9 * 10 ^ 18
  small = le_trans (le_of_eq (ap nat_abs (sym step))) (le_trans (Δ_small j f c.args.k (omega arith) c.args.shares.now.most) (omega arith))

pub overflow_sub-result : goal.overflow_sub-result
overflow_sub-result t c = fits_known ◌-ℤ◌ (further t c) (here t c) (small t c)

pub returns-then-order-eq0 : goal.returns-then-order-eq0
returns-then-order-eq0 t c =
    to_z_pos w64 (get_or c.args.shares.now.twentieths c.args.k 0) (omega (arith, c.args.shares.now.most c.args.k))
    ∙ sym (Δ-first c.args.order (λ i. get_or c.args.shares.now.twentieths i 0) c.args.k c.if-order-eq0.true)

pub returns-else-order-eq0 : goal.returns-else-order-eq0
returns-else-order-eq0 t c = read_known ◌-ℤ◌ (further t c) (here t c) (small t c) ∙ sym (step t c)
