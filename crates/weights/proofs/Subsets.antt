-- The route by subsets answers the sum over all patterns, for any number of seats.
use Rattle.std.proofs.Common.{◌≡◌, ℕ, suc, ◌-◌, ◌*◌, ◌≤◌, Bool, true, false, cond, T, List, [], ◌∷◌, length, ℤ, pos, ◌+ℤ◌, ◌-ℤ◌, ◌*ℤ◌, neg_ℤ, sym, refl, ap, ◌∙◌, ap₂, arith}
use lib.IntN.{zero-*ℤ, +ℤ_idr, +ℤ_comm}
use Rattle.patterns.specs.Patterns.{Pattern, size, within, all}
use Rattle.patterns.proofs.Integers as Int
use Rattle.patterns.proofs.Sums.{all_same, all_negℤ, all_zeroℤ, all_subℤ}
use Rattle.weights.specs.declared.exposure.Exposure.{Exposure}
use Rattle.weights.specs.Exposures.{counted, standing, Sound}
use Rattle.weights.specs.Differences.{alternating, sign}
use Rattle.weights.specs.Patterns.{times, by_patterns}
use Rattle.weights.specs.AllSeats.{by_subsets, difference}
use Rattle.weights.proofs.Forms.{form_consℤ, patterns_cons}

-- ---- the signs, flag by flag
within-size : (P J : Pattern) → T (within P J) → size P ≤ size J
unfolding within size
within-size [] J h = omega arith
within-size (true ∷ P) [] h = absurd h
within-size (false ∷ P) [] h = absurd h
within-size (true ∷ P) (true ∷ J) h = omega (arith, within-size P J h)
within-size (true ∷ P) (false ∷ J) h = absurd h
within-size (false ∷ P) (true ∷ J) h = omega (arith, within-size P J h)
within-size (false ∷ P) (false ∷ J) h = within-size P J h

pub sign_both : (J P : Pattern) → sign (true ∷ J) (true ∷ P) ≡ sign J P
unfolding sign within size
sign_both J P = let e : suc (size J) - suc (size P) ≡ size J - size P = omega arith in ap (λ (k : ℕ). cond (within P J) (alternating k) (pos 0)) e

pub sign-none : (J P : Pattern) → sign (false ∷ J) (false ∷ P) ≡ sign J P
unfolding sign within size
sign-none J P = refl

pub sign_out : (J P : Pattern) → sign (false ∷ J) (true ∷ P) ≡ pos 0
unfolding sign within size
sign_out J P = refl

pub sign_less : (J P : Pattern) → sign (true ∷ J) (false ∷ P) ≡ neg_ℤ (sign J P)
unfolding sign within size alternating
sign_less J P = go (within P J) (within-size P J)
  where
    go : (b : Bool) → (T b → size P ≤ size J) → cond b (alternating (suc (size J) - size P)) (pos 0) ≡ neg_ℤ (cond b (alternating (size J - size P)) (pos 0))
    go true h = let k : size P ≤ size J = h tt in let e : suc (size J) - size P ≡ suc (size J - size P) = omega arith in ap alternating e
    go false h = refl

-- ---- the differences, flag by flag
pub difference_out : (n : ℕ) (f : Pattern → ℕ) (J : Pattern) → difference (suc n) f (false ∷ J) ≡ difference n (λ P. f (false ∷ P)) J
unfolding difference all
difference_out n f J =
    ap₂ ◌+ℤ◌ (all_same ◌+ℤ◌ n _ _ (λ P. ap (λ s. s *ℤ pos (f (false ∷ P))) (sign-none J P)))
    (all_zeroℤ n _ (λ P. ap (λ s. s *ℤ pos (f (true ∷ P))) (sign_out J P) ∙ zero-*ℤ (pos (f (true ∷ P)))))
    ∙ +ℤ_idr (difference n (λ P. f (false ∷ P)) J)

pub difference_in : (n : ℕ) (f : Pattern → ℕ) (J : Pattern)
    → difference (suc n) f (true ∷ J) ≡ difference n (λ P. f (true ∷ P)) J -ℤ difference n (λ P. f (false ∷ P)) J
unfolding difference all
difference_in n f J =
    ap₂ ◌+ℤ◌
    (all_same ◌+ℤ◌ n _ _ (λ P. ap (λ s. s *ℤ pos (f (false ∷ P))) (sign_less J P) ∙ Int.neg_mul (sign J P) (pos (f (false ∷ P))))
    ∙ all_negℤ n (λ P. sign J P *ℤ pos (f (false ∷ P))))
    (all_same ◌+ℤ◌ n _ _ (λ P. ap (λ s. s *ℤ pos (f (true ∷ P))) (sign_both J P)))
    ∙ +ℤ_comm (neg_ℤ (difference n (λ P. f (false ∷ P)) J)) (difference n (λ P. f (true ∷ P)) J)

-- ---- the theorem
pub subsets_cons : (l : Exposure) (ls : List Exposure) (f : Pattern → ℕ) → by_subsets (l ∷ ls) f
    ≡ pos l.present *ℤ by_subsets ls (λ P. f (false ∷ P)) +ℤ pos l.count *ℤ (by_subsets ls (λ P. f (true ∷ P)) -ℤ by_subsets ls (λ P. f (false ∷ P)))
unfolding by_subsets
subsets_cons l ls f =
    let n = length ls in
    let X : Pattern → ℤ = λ J. pos (times counted standing ls J) in
    form_consℤ counted standing l ls (difference (suc n) f)
    ∙ ap₂ (λ x y. pos l.present *ℤ x +ℤ pos l.count *ℤ y)
    (all_same ◌+ℤ◌ n _ _ (λ J. ap (λ d. d *ℤ X J) (difference_out n f J)))
    (all_same ◌+ℤ◌ n _ _ (λ J. ap (λ d. d *ℤ X J) (difference_in n f J))
    ∙ all_subℤ n (difference n (λ P. f (true ∷ P))) (difference n (λ P. f (false ∷ P))) X)

pub subsets : (ls : List Exposure) (f : Pattern → ℕ) → Sound ls → by_subsets ls f ≡ pos (by_patterns ls f)
unfolding by_subsets by_patterns difference all times sign within alternating size
subsets [] f s = ap pos (omega arith)
subsets (l ∷ ls) f s =
    let x = by_patterns ls (λ P. f (false ∷ P)) in
    let y = by_patterns ls (λ P. f (true ∷ P)) in
    subsets_cons l ls f
    ∙ ap₂ (λ u v. pos l.present *ℤ u +ℤ pos l.count *ℤ (v -ℤ u)) (subsets ls (λ P. f (false ∷ P)) (λ i. s (suc i))) (subsets ls (λ P. f (true ∷ P)) (λ i. s (suc i)))
    ∙ Int.apart (pos l.present) (pos l.count) (pos x) (pos y)
    ∙ ap (λ z. z *ℤ pos x +ℤ pos (l.count * y)) (sym (Int.pos_sub l.present l.count (s 0)))
    ∙ ap pos (sym (patterns_cons l ls f))
