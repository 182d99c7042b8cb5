-- What is left to show of `Enrolling::start`.
use Rattle.std.proofs.Common.{rules}
use Rattle.cases.proofs.Sounds.{started-within}
use Rattle.cases.proofs.enrolling.Enrolling.start.Goals as goal

pub invariant_of-result : goal.invariant_of-result
invariant_of-result c = search (rules, started-within)
