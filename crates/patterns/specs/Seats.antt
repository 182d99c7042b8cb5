-- The number of seats, and of the patterns of their lives.
use Rattle.std.specs.Prelude.{ℕ, ◌^◌}

-- how many seats there are
abbrev pub seats : ℕ
seats = 4

-- how many patterns of their lives there are
abbrev pub patterns : ℕ
patterns = 2 ^ seats
