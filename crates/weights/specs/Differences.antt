-- Signs and differences of shares.
use Rattle.std.specs.Prelude.{ℕ, zero, suc, ◌-◌, cond, ℤ, pos, ◌-ℤ◌, neg_ℤ}
use Rattle.patterns.specs.Patterns.{Pattern, size, within}

-- (-1)^k
unfoldable pub alternating : ℕ → ℤ
alternating zero = pos 1
alternating (suc k) = neg_ℤ (alternating k)

-- the sign of the pattern P in the difference of the set J: (-1)^(|J| - |P|), and 0 where P is not within J
unfoldable pub sign : Pattern → Pattern → ℤ
sign J P = cond (within P J) (alternating (size J - size P)) (pos 0)

-- Δ^j c_k: a higher difference is the difference of two of the next lower order
unfoldable pub Δ : ℕ → (ℕ → ℕ) → ℕ → ℤ
Δ zero c k = pos (c k)
Δ (suc j) c k = Δ j c (suc k) -ℤ Δ j c k
