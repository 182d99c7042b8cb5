-- The weight by patterns over all seats: what the code adds up once every seat that is not named stands as a failed one.
use Rattle.std.specs.Prelude.{ℕ, ◌+◌, ◌*◌, true, false, List, [], ◌∷◌, length, slice_index}
use Rattle.patterns.specs.Patterns.{Pattern, all}
use Rattle.weights.specs.declared.exposure.Exposure.{Exposure}
use Rattle.weights.specs.Exposures.{counted, gone, lost}

-- the product of x of each seat in P and y of each other
unfoldable pub times : {L : Type 0} → (L → ℕ) → (L → ℕ) → List L → Pattern → ℕ
times x y [] P = 1
times x y (l ∷ ls) [] = 1
times x y (l ∷ ls) (true ∷ P) = x l * times x y ls P
times x y (l ∷ ls) (false ∷ P) = y l * times x y ls P

-- the sum over all P of f(P), times the count of each seat in P, times the deaths of each other
unfoldable pub by_patterns : List Exposure → (Pattern → ℕ) → ℕ
by_patterns ls f = all ◌+◌ (length ls) (λ P. f P * times counted gone ls P)

-- a failed seat in place of each that is not named
unfoldable pub kept : Pattern → List Exposure → List Exposure
kept N [] = []
kept [] (l ∷ ls) = lost ∷ kept [] ls
kept (true ∷ N) (l ∷ ls) = l ∷ kept N ls
kept (false ∷ N) (l ∷ ls) = lost ∷ kept N ls

-- the two patterns that differ in the last seat alone, weighed: as numbers, the first is p and the second has all the other seats' patterns before it
abbrev pub pair : Exposure → ℕ → List ℕ → ℕ → ℕ
pair x others sums p = gone x * slice_index sums p + x.count * slice_index sums (p + others)
