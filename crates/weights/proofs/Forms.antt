-- The sums over all patterns, one seat after another.
use Rattle.std.proofs.Common.{◌≡◌, ℕ, suc, ◌+◌, ◌*◌, ◌≤◌, true, false, List, [], ◌∷◌, length, ℤ, pos, ◌+ℤ◌, ◌*ℤ◌, ◌∙◌, ap₂, mul_left_comm, arith}
use native.Mathlib.Nat.{one-le-mul}
use Rattle.patterns.specs.Patterns.{Pattern, all}
use Rattle.patterns.proofs.Integers as Int
use Rattle.patterns.proofs.Sums.{all_same, all_scale, all_scaleℤ}
use Rattle.weights.specs.declared.exposure.Exposure.{Exposure}
use Rattle.weights.specs.Exposures.{counted, gone, Present, D}
use Rattle.weights.specs.Patterns.{times, by_patterns}

-- f times the products
pub form_cons : {L : Type 0} (x y : L → ℕ) (l : L) (ls : List L) (f : Pattern → ℕ)
    → all ◌+◌ (suc (length ls)) (λ P. f P * times x y (l ∷ ls) P)
    ≡ y l * all ◌+◌ (length ls) (λ P. f (false ∷ P) * times x y ls P) + x l * all ◌+◌ (length ls) (λ P. f (true ∷ P) * times x y ls P)
unfolding all times
form_cons x y l ls f =
    ap₂ ◌+◌
    (all_same ◌+◌ (length ls) _ _ (λ P. mul_left_comm (f (false ∷ P)) (y l) (times x y ls P)) ∙ all_scale (length ls) (y l) (λ P. f (false ∷ P) * times x y ls P))
    (all_same ◌+◌ (length ls) _ _ (λ P. mul_left_comm (f (true ∷ P)) (x l) (times x y ls P)) ∙ all_scale (length ls) (x l) (λ P. f (true ∷ P) * times x y ls P))

pub form_consℤ : {L : Type 0} (x y : L → ℕ) (l : L) (ls : List L) (f : Pattern → ℤ)
    → all ◌+ℤ◌ (suc (length ls)) (λ P. f P *ℤ pos (times x y (l ∷ ls) P))
    ≡ pos (y l) *ℤ all ◌+ℤ◌ (length ls) (λ P. f (false ∷ P) *ℤ pos (times x y ls P)) +ℤ pos (x l) *ℤ all ◌+ℤ◌ (length ls) (λ P. f (true ∷ P) *ℤ pos (times x y ls P))
unfolding all times
form_consℤ x y l ls f =
    ap₂ ◌+ℤ◌
    (all_same ◌+ℤ◌ (length ls) _ _ (λ P. Int.mul_left_comm (f (false ∷ P)) (pos (y l)) (pos (times x y ls P))) ∙ all_scaleℤ (length ls) (pos (y l)) (λ P. f (false ∷ P) *ℤ pos (times x y ls P)))
    (all_same ◌+ℤ◌ (length ls) _ _ (λ P. Int.mul_left_comm (f (true ∷ P)) (pos (x l)) (pos (times x y ls P))) ∙ all_scaleℤ (length ls) (pos (x l)) (λ P. f (true ∷ P) *ℤ pos (times x y ls P)))

-- by patterns
pub patterns_cons : (l : Exposure) (ls : List Exposure) (f : Pattern → ℕ)
    → by_patterns (l ∷ ls) f ≡ gone l * by_patterns ls (λ P. f (false ∷ P)) + l.count * by_patterns ls (λ P. f (true ∷ P))
unfolding by_patterns
patterns_cons l ls f = form_cons counted gone l ls f

-- the product of the present counts
pub D_pos : (xs : List Exposure) → Present xs → 1 ≤ D xs
unfolding D
D_pos [] h = omega arith
D_pos (x ∷ xs) h = one-le-mul (h 0 (omega arith)) (D_pos xs (λ i q. h (suc i) (omega arith)))
