-- A loop over the numbers below 2^n adds up what stands at all patterns of n lives.
use mathlib.Core.Path.{◌≡◌, sym, ap, ap₂, ◌∙◌}
use mathlib.Core.Bool.{true, false}
use mathlib.Core.List.{[], ◌∷◌}
use Prim.Native.Nat.{ℕ, zero, suc, ◌+◌, ◌*◌, ◌/◌, ◌%◌, ◌^◌}
use native.Mathlib.Omega.{arith}
use native.Mathlib.Nat.{pow-suc, suc-mul, add_assoc, zero-add}
use native.Mathlib.Numerals.{add-one, add-two}
use lib.Dec.{eqb}
use lib.IntN.{ℤ, pos, ◌+ℤ◌, +ℤ_idl, +ℤ_assoc}
use Rattle.patterns.specs.Patterns.{Pattern, all, below, number, flags}
use Rattle.patterns.proofs.Integers as Int
use Rattle.patterns.proofs.Sums.{add4}
use Rattle.patterns.proofs.Loops.{below-same}

-- ---- digits
even_low : (q : ℕ) → (q * 2) % 2 ≡ 0
even_low q = omega arith

even_high : (q : ℕ) → (q * 2) / 2 ≡ q
even_high q = omega arith

odd_low : (q : ℕ) → (q * 2 + 1) % 2 ≡ 1
odd_low q = omega arith

odd_high : (q : ℕ) → (q * 2 + 1) / 2 ≡ q
odd_high q = omega arith

pub flags_even : (n q : ℕ) → flags (suc n) (q * 2) ≡ false ∷ flags n q
unfolding flags
flags_even n q = ap₂ (λ (d r : ℕ). eqb d 1 ∷ flags n r) (even_low q) (even_high q)

pub flags_odd : (n q : ℕ) → flags (suc n) (q * 2 + 1) ≡ true ∷ flags n q
unfolding flags
flags_odd n q = ap₂ (λ (d r : ℕ). eqb d 1 ∷ flags n r) (odd_low q) (odd_high q)

module _ {X : Type 0} (add : X → X → X) (z : X) (e₀ : (a : X) → add z a ≡ a) (e₄ : (a b c d : X) → add (add a b) (add c d) ≡ add (add a c) (add b d))
    (e₃ : (a b c : X) → add (add a b) c ≡ add a (add b c)) where
  -- the even numbers, and the odd ones
  double : (m : ℕ) (G : ℕ → X) → below add z (m * 2) G ≡ add (below add z m (λ q. G (q * 2))) (below add z m (λ q. G (q * 2 + 1)))
  unfolding below
  double zero G = sym (e₀ z)
  double (suc m) G =
      ap (λ k. below add z k G) (suc-mul m 2 ∙ add-two (m * 2))
      ∙ ap (λ y. add (add y (G (m * 2))) (G (suc (m * 2)))) (double m G)
      ∙ e₃ _ _ _
      ∙ e₄ _ _ _ _
      ∙ ap (λ (k : ℕ). add (below add z (suc m) (λ q. G (q * 2))) (add (below add z m (λ q. G (q * 2 + 1))) (G k))) (sym (add-one (m * 2)))

  pub bridge : (n : ℕ) (F : ℕ → Pattern → X) → below add z (2 ^ n) (λ p. F p (flags n p)) ≡ all add n (λ P. F (number P) P)
  unfolding below all number flags
  bridge zero F = e₀ (F 0 [])
  bridge (suc n) F =
      ap (λ k. below add z k (λ p. F p (flags (suc n) p))) (pow-suc 2 n)
      ∙ double (2 ^ n) (λ p. F p (flags (suc n) p))
      ∙ ap₂ add
      (below-same add z (2 ^ n) _ _ (λ q. ap (F (q * 2)) (flags_even n q)) ∙ bridge n (λ p P. F (p * 2) (false ∷ P)))
      (below-same add z (2 ^ n) _ _ (λ q. ap (F (q * 2 + 1)) (flags_odd n q)) ∙ bridge n (λ p P. F (p * 2 + 1) (true ∷ P)))

-- at the two kinds of numbers
pub bridgeℕ : (n : ℕ) (F : ℕ → Pattern → ℕ) → below ◌+◌ 0 (2 ^ n) (λ p. F p (flags n p)) ≡ all ◌+◌ n (λ P. F (number P) P)
bridgeℕ n F = bridge ◌+◌ 0 zero-add add4 add_assoc n F

pub bridgeℤ : (n : ℕ) (F : ℕ → Pattern → ℤ) → below ◌+ℤ◌ (pos 0) (2 ^ n) (λ p. F p (flags n p)) ≡ all ◌+ℤ◌ n (λ P. F (number P) P)
bridgeℤ n F = bridge ◌+ℤ◌ (pos 0) +ℤ_idl Int.add4 +ℤ_assoc n F
