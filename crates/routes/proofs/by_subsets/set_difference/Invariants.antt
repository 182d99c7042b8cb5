-- The invariant of `set_difference`.
use Rattle.std.proofs.Common.{◌≡◌, get_or}
use Rattle.patterns.specs.Seats.{seats}
use Rattle.routes.proofs.BySubsets.{difference_to}
use Rattle.routes.proofs.by_subsets.set_difference.Given as goal

abbrev pub invariant-loop-p : goal.invariant-loop-p
invariant-loop-p l = l.sum ≡ difference_to seats (λ q. get_or l.shares.twentieths q 0) l.set l.p
