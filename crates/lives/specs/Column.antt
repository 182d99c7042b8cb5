-- A life's counts in a list.
use Rattle.std.specs.Prelude.{ℕ, List, map}
use Rattle.std.specs.List.{range_with_len}

-- the counts of years 0 to 120
unfoldable pub column : (ℕ → ℕ) → List ℕ
column f = map f (range_with_len 0 121)
