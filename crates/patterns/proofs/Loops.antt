-- Sums over the numbers below a bound, as a loop adds them up, for any addition.
use mathlib.Core.Path.{◌≡◌, refl, sym, ap, ap₂, ◌∙◌, fun_ext}
use Prim.Native.Nat.{ℕ, zero, suc, ◌+◌, ◌-◌, ◌*◌, ◌≤◌, ◌<◌}
use native.Mathlib.Omega.{arith}
use native.Mathlib.Nat as NatL
use native.Mathlib.Nat.{add-le-add}
use native.Mathlib.Numerals.{add-one}
use lib.IntN.{ℤ, pos, ◌+ℤ◌, ◌-ℤ◌, ◌*ℤ◌, neg_ℤ, nat_abs, *ℤ-zero, +ℤ_comm, +ℤ_assoc}
use borrow.Author.Differences.{ints}
use Rattle.patterns.specs.Patterns.{below}
use Rattle.patterns.proofs.Integers as Int

pub below-same : {X : Type 0} (add : X → X → X) (z : X) (m : ℕ) (F G : ℕ → X) → ((j : ℕ) → F j ≡ G j) → below add z m F ≡ below add z m G
below-same add z m F G h = ap (below add z m) (fun_ext h)

pub below_upto : {X : Type 0} (add : X → X → X) (z : X) (m : ℕ) (F G : ℕ → X) → ((j : ℕ) → j < m → F j ≡ G j) → below add z m F ≡ below add z m G
unfolding below
below_upto add z zero F G h = refl
below_upto add z (suc m) F G h =
    ap₂ add (below_upto add z m F G (λ j k. h j (omega arith))) (h m (omega arith))

pub below-map : {X Y : Type 0} (add : X → X → X) (z : X) (plus : Y → Y → Y) (h : X → Y) → ((a b : X) → h (add a b) ≡ plus (h a) (h b))
    → (m : ℕ) (F : ℕ → X) → below plus (h z) m (λ j. h (F j)) ≡ h (below add z m F)
unfolding below
below-map add z plus h e zero F = refl
below-map add z plus h e (suc m) F = ap (λ y. plus y (h (F m))) (below-map add z plus h e m F) ∙ sym (e (below add z m F) (F m))

pub below_two : {X : Type 0} (add : X → X → X) (z : X) → add z z ≡ z → ((a b c d : X) → add (add a b) (add c d) ≡ add (add a c) (add b d))
    → (m : ℕ) (F G : ℕ → X) → below add z m (λ j. add (F j) (G j)) ≡ add (below add z m F) (below add z m G)
unfolding below
below_two add z e0 e zero F G = sym e0
below_two add z e0 e (suc m) F G = ap (λ y. add y (add (F m) (G m))) (below_two add z e0 e m F G) ∙ e _ _ _ _

-- the first summand apart
pub below-first : {X : Type 0} (add : X → X → X) (z : X) → ((a : X) → add z a ≡ add a z) → ((a b c : X) → add (add a b) c ≡ add a (add b c))
    → (m : ℕ) (F : ℕ → X) → below add z (suc m) F ≡ add (F 0) (below add z m (λ j. F (suc j)))
unfolding below
below-first add z c a zero F = c (F 0)
below-first add z c a (suc m) F = ap (λ y. add y (F (suc m))) (below-first add z c a m F) ∙ a _ _ _

pub below_none : {X : Type 0} (add : X → X → X) (z : X) (F : ℕ → X) → below add z 0 F ≡ z
unfolding below
below_none add z F = refl

pub below_next : {X : Type 0} (add : X → X → X) (z : X) (F : ℕ → X) (m : ℕ) → below add z (m + 1) F ≡ add (below add z m F) (F m)
unfolding below
below_next add z F m = ap (λ (k : ℕ). below add z k F) (add-one m)

-- ---- over ℕ
pub below_le : (m : ℕ) (F G : ℕ → ℕ) → ((j : ℕ) → F j ≤ G j) → below ◌+◌ 0 m F ≤ below ◌+◌ 0 m G
unfolding below
below_le zero F G h = omega arith
below_le (suc m) F G h = add-le-add (below_le m F G h) (h m)

pub below_scale : (m k : ℕ) (F : ℕ → ℕ) → below ◌+◌ 0 m (λ j. k * F j) ≡ k * below ◌+◌ 0 m F
below_scale m k F = ap (λ (z : ℕ). below ◌+◌ z m (λ j. k * F j)) (sym (NatL.mul-zero k)) ∙ below-map ◌+◌ 0 ◌+◌ (λ x. k * x) (NatL.mul-add k) m F

pub firstℕ : (m : ℕ) (F : ℕ → ℕ) → below ◌+◌ 0 (suc m) F ≡ F 0 + below ◌+◌ 0 m (λ j. F (suc j))
firstℕ m F = below-first ◌+◌ 0 (λ a. NatL.add_comm 0 a) NatL.add_assoc m F

-- a loop's sum never falls
pub below_more : (m d : ℕ) (F : ℕ → ℕ) → below ◌+◌ 0 m F ≤ below ◌+◌ 0 (m + d) F
unfolding below
below_more m zero F = rw NatL.add-zero (NatL.le_refl (below ◌+◌ 0 m F))
below_more m (suc d) F = rw NatL.add-suc (omega (arith, below_more m d F))

pub below_part : (m n : ℕ) (F : ℕ → ℕ) → m ≤ n → below ◌+◌ 0 m F ≤ below ◌+◌ 0 n F
below_part m n F h = let e : m + (n - m) ≡ n = omega arith in rw e at (below_more m (n - m) F)

-- ---- over ℤ
pub first : (m : ℕ) (F : ℕ → ℤ) → below ◌+ℤ◌ (pos 0) (suc m) F ≡ F 0 +ℤ below ◌+ℤ◌ (pos 0) m (λ j. F (suc j))
first m F = below-first ◌+ℤ◌ (pos 0) (λ a. +ℤ_comm (pos 0) a) +ℤ_assoc m F

pub below_scaleℤ : (m : ℕ) (k : ℤ) (F : ℕ → ℤ) → below ◌+ℤ◌ (pos 0) m (λ j. k *ℤ F j) ≡ k *ℤ below ◌+ℤ◌ (pos 0) m F
below_scaleℤ m k F = ap (λ z. below ◌+ℤ◌ z m (λ j. k *ℤ F j)) (sym (*ℤ-zero k)) ∙ below-map ◌+ℤ◌ (pos 0) ◌+ℤ◌ (λ x. k *ℤ x) (Int.mul-add k) m F

pub below_sumℤ : (m : ℕ) (F G : ℕ → ℤ) → below ◌+ℤ◌ (pos 0) m (λ j. F j +ℤ G j) ≡ below ◌+ℤ◌ (pos 0) m F +ℤ below ◌+ℤ◌ (pos 0) m G
below_sumℤ m F G = below_two ◌+ℤ◌ (pos 0) refl Int.add4 m F G

pub below_subℤ : (m : ℕ) (F G : ℕ → ℤ) → below ◌+ℤ◌ (pos 0) m (λ j. F j -ℤ G j) ≡ below ◌+ℤ◌ (pos 0) m F -ℤ below ◌+ℤ◌ (pos 0) m G
below_subℤ m F G =
    below_sumℤ m F (λ j. neg_ℤ (G j)) ∙ ap (λ z. below ◌+ℤ◌ (pos 0) m F +ℤ z) (below-map ◌+ℤ◌ (pos 0) ◌+ℤ◌ neg_ℤ Int.neg_add m G)

pub below_zeroℤ : (m : ℕ) (F : ℕ → ℤ) → ((j : ℕ) → F j ≡ pos 0) → below ◌+ℤ◌ (pos 0) m F ≡ pos 0
below_zeroℤ m F h = below-same ◌+ℤ◌ (pos 0) m F (λ j. pos 0) h ∙ below-map ◌+ℤ◌ (pos 0) ◌+ℤ◌ (λ x. pos 0) (λ a b. refl) m F

-- a sum is no further from 0 than its summands together
pub abs_add : (x y : ℤ) → nat_abs (x +ℤ y) ≤ nat_abs x + nat_abs y
abs_add x y = omega (arith, ints)

pub abs_below : (m : ℕ) (F : ℕ → ℤ) → nat_abs (below ◌+ℤ◌ (pos 0) m F) ≤ below ◌+◌ 0 m (λ j. nat_abs (F j))
unfolding below
abs_below zero F = omega arith
abs_below (suc m) F = omega (arith, abs_add (below ◌+ℤ◌ (pos 0) m F) (F m), abs_below m F)
