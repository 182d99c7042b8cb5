-- The invariant of `symmetric_sum`.
use Rattle.std.proofs.Common.{◌≡◌, ◌+◌}
use Rattle.patterns.specs.Seats.{seats}
use Rattle.patterns.specs.Patterns.{below}
use Rattle.routes.proofs.ByCounts.{members_term}
use Rattle.routes.proofs.by_counts.symmetric_sum.Given as goal

abbrev pub invariant-loop-set : goal.invariant-loop-set
invariant-loop-set l = l.sum ≡ below ◌+◌ 0 l.set (members_term l.exposures.seats seats l.members)
