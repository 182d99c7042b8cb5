-- The other two routes to the weight, with the letters of Weights: over the sets of named seats, and over the number of named seats in a set.
use Rattle.std.specs.Prelude.{ℕ, ◌+◌, ◌*◌, ◌^◌, cond, List, length, ℤ, pos, ◌+ℤ◌, ◌*ℤ◌, ◌==◌}
use Rattle.patterns.specs.Patterns.{size, flags, below}
use Rattle.weights.specs.declared.exposure.Exposure.{Exposure}
use Rattle.weights.specs.Exposures.{counted, standing}
use Rattle.weights.specs.Differences.{sign, Δ}
use Rattle.weights.specs.Numbers.{share_with}
use Rattle.weights.specs.Weights.{times_of, inside}

-- g(J), among n seats: the sum over the patterns P within J of f(P), with the sign (-1)^(|J| - |P|)
unfoldable pub set_difference : ℕ → (ℕ → ℕ) → ℕ → ℤ
set_difference n f j = below ◌+ℤ◌ (pos 0) (2 ^ n) (λ p. sign (flags n j) (flags n p) *ℤ pos (f p))

-- the count of each named seat in the set j, times the present count of each other
abbrev pub set_product : List Exposure → ℕ → ℕ → ℕ
set_product ls N j = times_of (flags (length ls) N) counted standing ls (flags (length ls) j)

-- by subsets: what the set j adds
abbrev pub subset_term : List Exposure → ℕ → (ℕ → ℕ) → ℕ → ℤ
subset_term ls N f j = cond (inside ls N j) (set_difference (length ls) f j *ℤ pos (set_product ls N j)) (pos 0)

-- what the set j adds to S_k
abbrev pub symmetric_term : List Exposure → ℕ → ℕ → ℕ → ℕ
symmetric_term ls N k j = cond (inside ls N j) (cond (size (flags (length ls) j) == k) (set_product ls N j) 0) 0

-- S_k: the sum over the sets of k named seats of their products
unfoldable pub symmetric_sum : List Exposure → ℕ → ℕ → ℕ
symmetric_sum ls N k = below ◌+◌ 0 (2 ^ length ls) (symmetric_term ls N k)

-- by counts: what j adds, the j-th difference at 0 of the shares by number alive, times S_j
abbrev pub count_term : List Exposure → ℕ → (ℕ → ℕ) → ℕ → ℤ
count_term ls N f j = Δ j (share_with (length ls) f N) 0 *ℤ pos (symmetric_sum ls N j)

-- how far from 0 a sum over sets of n lives can be on its way, in products of the present counts, where no share is above 20: 820 for four
abbrev pub reach : ℕ → ℕ
reach n = 10 * (3 ^ n + 1)
