-- The invariant of `by_patterns`.
use Rattle.std.proofs.Common.{◌≡◌, ◌≤◌, length}
use Rattle.patterns.specs.Seats.{seats, patterns}
use Rattle.weights.proofs.ByPatterns.{Left}
use Rattle.weights.proofs.by_patterns.by_patterns.Given as goal

abbrev pub invariant-loop-seat : goal.invariant-loop-seat
invariant-loop-seat l = record { long : length l.sums ≡ patterns; few : length l.left ≤ seats; left : Left l.exposures.seats l.shares.twentieths l.left l.sums l.full }

abbrev pub decreases-loop-seat : goal.decreases-loop-seat
decreases-loop-seat l = length l.left
