-- Projected counts fall, stay within the first count below, and end where the counts below end.
use Rattle.std.specs.Prelude.{◌≡◌, ℕ, zero, suc, ◌+◌, ◌-◌, ◌≤◌, Bool, true, false, cond, ◌==◌}
use Rattle.std.proofs.Math.Path.{refl, sym, ap, subst}
use Rattle.std.proofs.Common.{add-one, zero-le}
use Rattle.std.proofs.Math.Nat.{le_refl, le_trans, sub-le}
use Rattle.lives.specs.Projection.{deaths, survivors, projected}

cut_le : (b : Bool) (k x : ℕ) → cond b 0 (k - x) ≤ k
cut_le true k x = zero-le
cut_le false k x = sub-le k x

survivors_le : (here next factor alive : ℕ) → survivors here next factor alive ≤ alive
survivors_le here next factor alive = cut_le (next == 0) alive (deaths here next factor alive)

module _ (l f : ℕ → ℕ) where
  pub projected_next : (t : ℕ) → projected l f (t + 1) ≡ survivors (l t) (l (t + 1)) (f t) (projected l f t)
  unfolding projected
  projected_next t = subst (λ n. projected l f n ≡ survivors (l t) (l n) (f t) (projected l f t)) (sym (add-one t)) refl

  pub projected-falls : (t : ℕ) → projected l f (t + 1) ≤ projected l f t
  projected-falls t = subst (λ n. n ≤ projected l f t) (sym (projected_next t)) (survivors_le (l t) (l (t + 1)) (f t) (projected l f t))

  pub projected_le : (t : ℕ) → projected l f t ≤ l 0
  unfolding projected
  projected_le zero = le_refl (l 0)
  projected_le (suc t) = le_trans (survivors_le (l t) (l (suc t)) (f t) (projected l f t)) (projected_le t)

  pub projected_ended : (t : ℕ) → l t ≡ 0 → projected l f t ≡ 0
  unfolding projected
  projected_ended zero e = e
  projected_ended (suc t) e = ap (λ n. survivors (l t) n (f t) (projected l f t)) e
