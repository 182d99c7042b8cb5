-- The invariant of the loop in `mask`.
use Rattle.std.proofs.Common.{◌≡◌}
use Rattle.expressions.specs.Meaning.{packed, group_holds}
use Rattle.expressions.proofs.Group.mask.Given as goal

abbrev pub invariant-loop-pattern : goal.invariant-loop-pattern
invariant-loop-pattern l = l.mask ≡ packed (group_holds l.self l.set) l.pattern
