-- What is left to show of `Enrolling::open`.
use Rattle.std.proofs.Common.{rules}
use Rattle.cases.proofs.Sounds.{opened_sound}
use Rattle.cases.proofs.enrolling.Enrolling.open.Goals as goal

pub invariant_of-result : goal.invariant_of-result
invariant_of-result c = search (rules, opened_sound)
