-- The other two routes over all seats, with the letters of Patterns. Only inner functions cite these.
use Rattle.std.specs.Prelude.{ℕ, suc, ◌+◌, cond, List, length, ℤ, pos, ◌+ℤ◌, ◌*ℤ◌, ◌==◌}
use Rattle.patterns.specs.Patterns.{Pattern, size, all, below}
use Rattle.weights.specs.declared.exposure.Exposure.{Exposure}
use Rattle.weights.specs.Exposures.{counted, standing}
use Rattle.weights.specs.Patterns.{times}
use Rattle.weights.specs.Differences.{sign, Δ}

-- g(J), among n seats: the sum over all P within J of f(P), with its sign
unfoldable pub difference : ℕ → (Pattern → ℕ) → Pattern → ℤ
difference n f J = all ◌+ℤ◌ n (λ P. sign J P *ℤ pos (f P))

-- the sum over all J of g(J), times the count of each seat in J, times the present count of each other
unfoldable pub by_subsets : List Exposure → (Pattern → ℕ) → ℤ
by_subsets ls f = all ◌+ℤ◌ (length ls) (λ J. difference (length ls) f J *ℤ pos (times counted standing ls J))

-- S_j: the sum over all J of j seats of the count of each seat in J, times the present count of each other
unfoldable pub S : List Exposure → ℕ → ℕ
S ls j = all ◌+◌ (length ls) (λ J. cond (size J == j) (times counted standing ls J) 0)

-- the sum over j from 0 to the number of seats of Δ^j c_0 times S_j
unfoldable pub by_counts : List Exposure → (ℕ → ℕ) → ℤ
by_counts ls c = below ◌+ℤ◌ (pos 0) (suc (length ls)) (λ j. Δ j c 0 *ℤ pos (S ls j))
