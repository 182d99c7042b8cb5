-- A quotient, one decimal after another.
use Rattle.std.proofs.Common.{◌≡◌, ℕ, ◌+◌, ◌*◌, ◌/◌, ◌%◌, ◌^◌, ◌<◌, ◌≤◌, sym, ap, ◌∙◌, add-one, arith}
use native.Mathlib.Nat as NatL

ten : (w i : ℕ) → w * 10 ^ (i + 1) ≡ w * 10 ^ i * 10
ten w i = ap (λ (k : ℕ). w * 10 ^ k) (add-one i) ∙ ap (λ (k : ℕ). w * k) (NatL.pow-suc 10 i) ∙ sym (NatL.mul_assoc w (10 ^ i) 10)

cut : (a d : ℕ) → a * 10 ≡ a % d * 10 + a / d * 10 * d
cut a d = ap (λ (k : ℕ). k * 10) (sym (NatL.div-add-mod' a d)) ∙ sums (a / d) (a % d) d
  where
    sums : (q r d : ℕ) → (q * d + r) * 10 ≡ r * 10 + q * 10 * d
    sums q r d = omega arith

pub next_digit : (w d i : ℕ) → 0 < d → w * 10 ^ i / d * 10 + w * 10 ^ i % d * 10 / d ≡ w * 10 ^ (i + 1) / d
next_digit w d i h =
    NatL.add_comm (w * 10 ^ i / d * 10) (w * 10 ^ i % d * 10 / d)
    ∙ sym (ap (λ (k : ℕ). k / d) (ten w i ∙ cut (w * 10 ^ i) d) ∙ NatL.add-mul-div_right (w * 10 ^ i % d * 10) (w * 10 ^ i / d * 10) h)

pub next_rest : (w d i : ℕ) → 0 < d → w * 10 ^ i % d * 10 % d ≡ w * 10 ^ (i + 1) % d
next_rest w d i h = sym (ap (λ (k : ℕ). k % d) (ten w i ∙ cut (w * 10 ^ i) d) ∙ NatL.add-mul-mod_self_right (w * 10 ^ i % d * 10) (w * 10 ^ i / d * 10) d)

-- a part is at most the whole
pub digits_below : (w d i : ℕ) → w ≤ d → i ≤ 8 → w * 10 ^ i / d ≤ 100000000
digits_below w d i h hi =
    NatL.le_trans (NatL.div-le_of_le-mul d (NatL.mul-le-mul_right (10 ^ i) h)) (NatL.pow-le-pow_right (NatL.zero-lt-suc 9) hi)

-- before the first decimal
pub no_digit : (w d : ℕ) → w < d → 0 ≡ w * 10 ^ 0 / d
no_digit w d h = sym (ap (λ (k : ℕ). k / d) (NatL.mul-one w) ∙ NatL.div-eq_of_lt h)

pub all_rest : (w d : ℕ) → w < d → w ≡ w * 10 ^ 0 % d
all_rest w d h = sym (ap (λ (k : ℕ). k % d) (NatL.mul-one w) ∙ NatL.mod-eq_of_lt h)

-- all of it
pub all_of : (d : ℕ) → 0 < d → 100000000 ≡ d * 100000000 / d
all_of d h = sym (ap (λ (k : ℕ). k / d) (NatL.mul_comm d 100000000) ∙ NatL.mul-div_cancel 100000000 h)
