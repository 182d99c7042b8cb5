-- The invariant of the loop in `seat_set`.
use Rattle.std.proofs.Common.{◌≡◌, drop}
use Rattle.tokens.specs.Cut.{set_of}
use Rattle.tokens.proofs.scan.seat_set.Given as goal

abbrev pub invariant-loop-b : goal.invariant-loop-b
invariant-loop-b l = set_of l.last l.set (drop l.b-index l.run) ≡ set_of 0 0 l.run
