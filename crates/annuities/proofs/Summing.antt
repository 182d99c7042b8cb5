-- The sum of the yearly factors.
use Rattle.std.proofs.Common.{◌≡◌, ℕ, zero, suc, ◌+◌, ◌*◌, ◌/◌, ◌^◌, ◌≤◌, sym, ap, ◌∙◌, ap₂, add-zero, add-suc, zero-mul, add-one, arith}
use native.Mathlib.Nat.{zero-div}
use Rattle.benefits.specs.declared.benefit.Benefit.{Benefit}
use Rattle.cases.specs.Book.{Book}
use Rattle.cases.specs.Weighing.{weight_of, full_of}
use Rattle.patterns.specs.Patterns.{below}
use Rattle.patterns.proofs.Loops.{below_next}
use Rattle.annuities.specs.Discounts.{discount}
use Rattle.annuities.specs.Values.{yearly, yearly_of}

-- ---- a weight of 0 that lasts adds nothing more
none-yearly : (F v : ℕ) → yearly 0 F v ≡ 0
none-yearly F v = ap (λ (q : ℕ). q * v / 10 ^ 8) (zero-div F) ∙ ap (λ (q : ℕ). q / 10 ^ 8) (zero-mul v)

pub nothing_more : (b : Book) (x : Benefit) (i t d : ℕ) → ((u : ℕ) → t ≤ u → weight_of b x u ≡ 0) → below ◌+◌ 0 (t + d) (yearly_of b x i) ≡ below ◌+◌ 0 t (yearly_of b x i)
nothing_more b x i t zero h = ap (λ (n : ℕ). below ◌+◌ 0 n (yearly_of b x i)) (add-zero t)
nothing_more b x i t (suc d) h =
    ap (λ (n : ℕ). below ◌+◌ 0 n (yearly_of b x i)) (add-suc t d ∙ sym (add-one (t + d)))
    ∙ below_next ◌+◌ 0 (yearly_of b x i) (t + d)
    ∙ ap₂ ◌+◌ (nothing_more b x i t d h) (ap (λ (W : ℕ). yearly W (full_of b x) (discount i (t + d))) (h (t + d) (omega arith)) ∙ none-yearly (full_of b x) (discount i (t + d)))
    ∙ add-zero (below ◌+◌ 0 t (yearly_of b x i))
