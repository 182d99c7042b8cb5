-- The invariant of `by_counts`.
use Rattle.std.proofs.Common.{◌≡◌, get_or, pos, ◌+ℤ◌}
use Rattle.patterns.specs.Patterns.{below}
use Rattle.routes.proofs.ByCounts.{order_term}
use Rattle.routes.proofs.by_counts.by_counts.Given as goal

abbrev pub invariant-loop-j : goal.invariant-loop-j
invariant-loop-j l = l.sum ≡ below ◌+ℤ◌ (pos 0) l.j (order_term l.exposures.seats (λ i. get_or l.shares.twentieths i 0))
