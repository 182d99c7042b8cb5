-- The answer of a reading in one pattern.
use Rattle.std.specs.Prelude.{ℕ, ◌/◌, ◌%◌, ◌^◌, Bool, ◌==◌}
use Rattle.expressions.specs.declared.Reading.{Reading}

-- whether the bit of number p is set
abbrev pub bit_of : ℕ → ℕ → Bool
bit_of answers p = answers / 2 ^ p % 2 == 1

-- whether what was read holds in the pattern of number p
abbrev pub yes : Reading → ℕ → Bool
yes x p = bit_of x.answers p
