-- The numbers that a line can use.
use Rattle.std.specs.Prelude.{ℕ}

-- how many of a line's numbers are kept: a table's number, and one more count than a table holds
abbrev pub most : ℕ
most = 123

-- how many tables there are, and how many counts a table holds
abbrev pub table_count : ℕ
table_count = 4

-- how many counts a life has
abbrev pub year_count : ℕ
year_count = 121
