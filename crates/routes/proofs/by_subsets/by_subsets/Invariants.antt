-- The invariant of `by_subsets`.
use Rattle.std.proofs.Common.{◌≡◌, get_or, pos, ◌+ℤ◌}
use Rattle.patterns.specs.Seats.{seats}
use Rattle.patterns.specs.Patterns.{below}
use Rattle.routes.proofs.BySubsets.{set_term}
use Rattle.routes.proofs.by_subsets.by_subsets.Given as goal

abbrev pub invariant-loop-set : goal.invariant-loop-set
invariant-loop-set l = l.sum ≡ below ◌+ℤ◌ (pos 0) l.set (set_term l.exposures.seats seats (λ q. get_or l.shares.twentieths q 0))
