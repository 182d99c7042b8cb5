-- The yearly factor lies at or below W v / F by less than 2, and is at most 1.
use Rattle.std.proofs.Common.{ℕ, ◌+◌, ◌*◌, ◌^◌, ◌<◌, ◌≤◌, le_trans, le_of_lt, mul-le-mul_right, mul-le-mul, mul-lt-mul_of_pos_right, div-mul-le_self, le_of_mul-le-mul_right, arith, lit<}
use native.Mathlib.Nat.{lt-div-mul-add}
use Rattle.annuities.specs.Values.{probability, yearly, Cut}

-- both cuts, over any quotients that are cut
between : (W v F q y : ℕ) → 0 < F → v ≤ 100000000
    → q * F ≤ W * 100000000 → W * 100000000 < q * F + F
    → y * 100000000 ≤ q * v → q * v < y * 100000000 + 100000000
    → Cut W F v y
between W v F q y p hv a b c d =
    let c' = mul-le-mul_right F c in
    let a' = mul-le-mul_right v a in
    let b' = mul-le-mul_right v (le_of_lt b) in
    let d' = mul-lt-mul_of_pos_right d p in
    let h' = mul-le-mul_right F hv in
    record { low = omega arith; high = omega arith }

pub cuts : (W v F : ℕ) → 0 < F → v ≤ 10 ^ 8 → Cut W F v (yearly W F v)
cuts W v F p hv =
    let q = probability W F in
    between W v F q (yearly W F v) p hv (div-mul-le_self (W * 100000000) F) (lt-div-mul-add p)
    (div-mul-le_self (q * v) 100000000) (lt-div-mul-add (lit< tt))

-- a factor that is so cut is at most 1
pub at_most_one : {W F v y : ℕ} → 0 < F → W ≤ F → v ≤ 10 ^ 8 → Cut W F v y → y ≤ 10 ^ 8
at_most_one h p q c = le_of_mul-le-mul_right (le_trans c.low (le_trans (mul-le-mul p q) (omega arith))) h
