-- Sums over all patterns, for any addition.
use mathlib.Core.Path.{◌≡◌, refl, sym, ap, ap₂, ◌∙◌, fun_ext}
use mathlib.Core.Bool.{true, false}
use mathlib.Core.List.{◌∷◌}
use Prim.Native.Nat.{ℕ, zero, suc, ◌+◌, ◌*◌}
use native.Mathlib.Omega.{arith}
use native.Mathlib.Nat as NatL
use lib.IntN.{ℤ, pos, ◌+ℤ◌, ◌-ℤ◌, ◌*ℤ◌, neg_ℤ}
use Rattle.patterns.specs.Patterns.{Pattern, all}
use Rattle.patterns.proofs.Integers as Int

-- the same summands
pub all_same : {X : Type 0} (add : X → X → X) (n : ℕ) (F G : Pattern → X) → ((P : Pattern) → F P ≡ G P) → all add n F ≡ all add n G
all_same add n F G h = ap (all add n) (fun_ext h)

-- a map that keeps sums goes through
pub all_map : {X Y : Type 0} (add : X → X → X) (plus : Y → Y → Y) (h : X → Y) → ((a b : X) → h (add a b) ≡ plus (h a) (h b))
    → (n : ℕ) (F : Pattern → X) → all plus n (λ P. h (F P)) ≡ h (all add n F)
unfolding all
all_map add plus h e zero F = refl
all_map add plus h e (suc n) F =
    ap₂ plus (all_map add plus h e n (λ P. F (false ∷ P))) (all_map add plus h e n (λ P. F (true ∷ P)))
    ∙ sym (e (all add n (λ P. F (false ∷ P))) (all add n (λ P. F (true ∷ P))))

-- the sum of two
pub all_two : {X : Type 0} (add : X → X → X) → ((a b c d : X) → add (add a b) (add c d) ≡ add (add a c) (add b d))
    → (n : ℕ) (F G : Pattern → X) → all add n (λ P. add (F P) (G P)) ≡ add (all add n F) (all add n G)
unfolding all
all_two add e zero F G = refl
all_two add e (suc n) F G =
    ap₂ add (all_two add e n (λ P. F (false ∷ P)) (λ P. G (false ∷ P))) (all_two add e n (λ P. F (true ∷ P)) (λ P. G (true ∷ P)))
    ∙ e _ _ _ _

pub add4 : (a b c d : ℕ) → (a + b) + (c + d) ≡ (a + c) + (b + d)
add4 a b c d = omega arith

-- ---- over ℕ
pub all_scale : (n k : ℕ) (F : Pattern → ℕ) → all ◌+◌ n (λ P. k * F P) ≡ k * all ◌+◌ n F
all_scale n k F = all_map ◌+◌ ◌+◌ (λ x. k * x) (NatL.mul-add k) n F

-- ---- over ℤ
pub all_scaleℤ : (n : ℕ) (k : ℤ) (F : Pattern → ℤ) → all ◌+ℤ◌ n (λ P. k *ℤ F P) ≡ k *ℤ all ◌+ℤ◌ n F
all_scaleℤ n k F = all_map ◌+ℤ◌ ◌+ℤ◌ (λ x. k *ℤ x) (Int.mul-add k) n F

pub all_negℤ : (n : ℕ) (F : Pattern → ℤ) → all ◌+ℤ◌ n (λ P. neg_ℤ (F P)) ≡ neg_ℤ (all ◌+ℤ◌ n F)
all_negℤ n F = all_map ◌+ℤ◌ ◌+ℤ◌ neg_ℤ Int.neg_add n F

pub all_zeroℤ : (n : ℕ) (F : Pattern → ℤ) → ((P : Pattern) → F P ≡ pos 0) → all ◌+ℤ◌ n F ≡ pos 0
all_zeroℤ n F h = all_same ◌+ℤ◌ n F (λ P. pos 0) h ∙ all_map ◌+ℤ◌ ◌+ℤ◌ (λ x. pos 0) (λ a b. refl) n F

pub all_subℤ : (n : ℕ) (A B X : Pattern → ℤ) → all ◌+ℤ◌ n (λ P. (A P -ℤ B P) *ℤ X P) ≡ all ◌+ℤ◌ n (λ P. A P *ℤ X P) -ℤ all ◌+ℤ◌ n (λ P. B P *ℤ X P)
all_subℤ n A B X =
    all_same ◌+ℤ◌ n _ _ (λ P. Int.sub-mul (A P) (B P) (X P))
    ∙ all_two ◌+ℤ◌ Int.add4 n (λ P. A P *ℤ X P) (λ P. neg_ℤ (B P *ℤ X P))
    ∙ ap (λ z. all ◌+ℤ◌ n (λ P. A P *ℤ X P) +ℤ z) (all_negℤ n (λ P. B P *ℤ X P))
