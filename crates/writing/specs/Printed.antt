-- A line as it is printed.
use Rattle.std.specs.Prelude.{◌≡◌, ℕ, ◌≤◌, List, [], ◌∷◌, ◌++◌, length, take, drop, decimal}

-- the fields of a line, each after one space
abbrev pub spaced : List (List ℕ) → List ℕ
spaced [] = []
spaced (f ∷ fs) = 32 ∷ (f ++ spaced fs)

-- a line that is printed: its kind, three numbers, and byte 10
abbrev pub printed : ℕ → ℕ → ℕ → ℕ → List ℕ
printed kind a b c = kind ∷ (spaced (decimal a ∷ decimal b ∷ decimal c ∷ []) ++ (10 ∷ []))

-- bytes were added to an area after its first from, and nothing else was touched
pub record Written (before : List ℕ) (from : ℕ) (after : List ℕ) (to : ℕ) (bytes : List ℕ) : Type 0 where
  pub within : to ≤ length after
  pub long : length after ≡ length before
  pub front : take to after ≡ take from before ++ bytes
  pub back : drop to after ≡ drop to before
