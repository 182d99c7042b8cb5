-- The share of a pattern.
use Rattle.std.specs.Prelude.{ℕ, slice_index}
use Rattle.benefits.specs.declared.benefit.Benefit.{Benefit}

-- the share that is paid in the pattern of number p, in twentieths
abbrev pub share : Benefit → ℕ → ℕ
share b p = slice_index b.shares.twentieths p
