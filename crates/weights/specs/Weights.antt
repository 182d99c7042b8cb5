-- The weight of a benefit: ls has an exposure for each seat, N is the number of the set of named seats, f gives the share of a pattern by its number.
-- A seat that N does not name may have any exposure.
use Rattle.std.specs.Prelude.{ℕ, ◌+◌, ◌*◌, ◌^◌, Bool, true, false, cond, List, [], ◌∷◌, length}
use Rattle.patterns.specs.Patterns.{Pattern, within, flags, below}
use Rattle.weights.specs.declared.exposure.Exposure.{Exposure}
use Rattle.weights.specs.Exposures.{counted, gone}

-- the product over the named seats of x of each in P and y of each other
unfoldable pub times_of : {L : Type 0} → Pattern → (L → ℕ) → (L → ℕ) → List L → Pattern → ℕ
times_of N x y [] P = 1
times_of [] x y (l ∷ ls) P = 1
times_of (k ∷ N) x y (l ∷ ls) [] = 1
times_of (true ∷ N) x y (l ∷ ls) (true ∷ P) = x l * times_of N x y ls P
times_of (true ∷ N) x y (l ∷ ls) (false ∷ P) = y l * times_of N x y ls P
times_of (false ∷ N) x y (l ∷ ls) (p ∷ P) = times_of N x y ls P

-- is the pattern p within N
abbrev pub inside : List Exposure → ℕ → ℕ → Bool
inside ls N p = within (flags (length ls) p) (flags (length ls) N)

-- what the pattern p adds: its share, times the count of each named seat in it, times the present count less the count of each other
abbrev pub pattern_term : List Exposure → ℕ → (ℕ → ℕ) → ℕ → ℕ
pattern_term ls N f p = cond (inside ls N p) (f p * times_of (flags (length ls) N) counted gone ls (flags (length ls) p)) 0

-- the weight: the sum over all patterns of the named seats
abbrev pub weight : List Exposure → ℕ → (ℕ → ℕ) → ℕ
weight ls N f = below ◌+◌ 0 (2 ^ length ls) (pattern_term ls N f)

-- the product over the named seats
abbrev pub product_named : {L : Type 0} → Pattern → (L → ℕ) → List L → ℕ
product_named N x [] = 1
product_named [] x (l ∷ ls) = 1
product_named (true ∷ N) x (l ∷ ls) = x l * product_named N x ls
product_named (false ∷ N) x (l ∷ ls) = product_named N x ls
