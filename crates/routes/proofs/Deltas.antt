-- The difference by recursion, and how large a difference and a sign can be.
use Rattle.std.proofs.Common.{◌≡◌, ℕ, zero, suc, ◌+◌, ◌-◌, ◌*◌, ◌^◌, ◌≤◌, Bool, true, false, cond, ◌≢◌, ℤ, pos, negsuc, ◌-ℤ◌, neg_ℤ, nat_abs, refl, ◌∙◌, add-one, arith, pow_mono}
use native.Mathlib.Nat as NatL
use Rattle.patterns.specs.Seats.{seats, patterns}
use Rattle.patterns.specs.Patterns.{Pattern, within, size}
use Rattle.weights.specs.Differences.{alternating, sign, Δ}
use Rattle.weights.proofs.Bounds.{half, Δ_near}

pub Δ-first : (j : ℕ) (c : ℕ → ℕ) (k : ℕ) → j ≡ 0 → Δ j c k ≡ pos (c k)
unfolding Δ
Δ-first zero c k e = refl
Δ-first (suc j) c k e = absurd (omega arith)

pub Δ-step : (j : ℕ) (c : ℕ → ℕ) (k : ℕ) → j ≢ 0 → Δ j c k ≡ Δ (j - 1) c (k + 1) -ℤ Δ (j - 1) c k
unfolding Δ
Δ-step zero c k n = absurd (n refl)
Δ-step (suc j) c k n = let e : suc j - 1 ≡ j = omega arith in rw (e, add-one)

half_le : (j : ℕ) → half j ≤ 2 ^ j
unfolding half
half_le zero = omega arith
half_le (suc j) = omega (arith, NatL.pow-suc 2 j)

pub Δ_small : (j : ℕ) (c : ℕ → ℕ) (k : ℕ) → j ≤ seats → ((i : ℕ) → c i ≤ 20) → nat_abs (Δ j c k) ≤ 20 * patterns
Δ_small j c k h b =
    NatL.le_trans (Δ_near 20 c b j k).size (NatL.mul-le-mul_left 20 (NatL.le_trans (half_le j) (pow_mono h)))

-- ---- a sign is -1, 0 or 1
abs_neg : (z : ℤ) → nat_abs (neg_ℤ z) ≡ nat_abs z
abs_neg (pos zero) = refl
abs_neg (pos (suc n)) = refl
abs_neg (negsuc n) = refl

one_size : (k : ℕ) → nat_abs (alternating k) ≡ 1
unfolding alternating
one_size zero = refl
one_size (suc k) = abs_neg (alternating k) ∙ one_size k

pub sign-size : (J P : Pattern) → nat_abs (sign J P) ≤ 1
unfolding sign
sign-size J P = go (within P J)
  where
    go : (b : Bool) → nat_abs (cond b (alternating (size J - size P)) (pos 0)) ≤ 1
    go true = NatL.le_of_eq (one_size (size J - size P))
    go false = omega arith
