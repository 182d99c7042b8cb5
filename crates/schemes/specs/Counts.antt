-- The tables of counts, and what a table line does to them.
use Rattle.std.specs.Prelude.{ℕ, ◌≤◌, cond, List, [], ◌++◌, map, length, drop, Ok, Err, Result, slice_index, slice_index_or, slice_set}
use Rattle.refusals.specs.declared.Refusal.TheVariants.{Counts}
use Rattle.lines.specs.declared.kind.Kind.TheVariants as kind
use Rattle.schemes.specs.declared.fault.Fault.{Fault}
use Rattle.schemes.specs.declared.fault.Fault.TheVariants.{At}
use Rattle.arrayvec.specs.ArrayVec.{ArrayVec}
use Rattle.lives.specs.Tables.{fairly}
use Rattle.schemes.specs.Most.{year_count}
use Rattle.schemes.specs.Syntax.{given, by_read}

-- the counts of all tables
abbrev pub lists : List (ArrayVec ℕ) → List (List ℕ)
lists ts = map (λ t. t.items) ts

-- no table holds more counts than a life has
abbrev pub Sound : List (ArrayVec ℕ) → Type 0
Sound ts = (i : ℕ) → length (slice_index_or (lists ts) i []) ≤ year_count

-- a table with counts put in, if they make a life
abbrev pub put : ℕ → List ℕ → List (List ℕ) → Result (List (List ℕ)) Fault
put i xs ts = cond (fairly xs) (Ok (slice_set ts i xs)) (Err (At 0 Counts))

-- T table counts: the tables with the counts appended to one
abbrev pub appended : List ℕ → List (List ℕ) → Result (List (List ℕ)) Fault
appended rest ts = by_read (given kind.Table rest) (λ ns. put (slice_index ns 0) (slice_index_or ts (slice_index ns 0) [] ++ drop 1 ns) ts)
