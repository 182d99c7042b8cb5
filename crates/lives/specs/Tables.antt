-- What a list of counts must be to make a life.
use Rattle.std.specs.Prelude.{ℕ, ◌+◌, ◌≤◌, Bool, true, ◌&&◌, List, [], ◌∷◌, length, nat_le, slice_index}

-- at most 121 counts, none above 1,000,000 or above the one before it; past the list a count is 0
pub record Fair (xs : List ℕ) : Type 0 where
  pub short : length xs ≤ 121
  pub bounded : (t : ℕ) → slice_index xs t ≤ 1000000
  pub falling : (t : ℕ) → slice_index xs (t + 1) ≤ slice_index xs t

-- as a test: no count is above the one before, and the first is not above the top
abbrev pub falls : ℕ → List ℕ → Bool
falls top [] = true
falls top (x ∷ xs) = nat_le x top && falls x xs

-- whether a list of counts makes a life
abbrev pub fairly : List ℕ → Bool
fairly xs = nat_le (length xs) 121 && falls 1000000 xs
