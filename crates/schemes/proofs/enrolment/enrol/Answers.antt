-- What is left to show of `enrol`.
use Rattle.std.proofs.Common.{ap, ◌∙◌}
use Rattle.std.proofs.lemmas.Result.{err_from_is_err_and}
use Rattle.cases.specs.Views.{enrolling_book}
use Rattle.schemes.specs.Counts.{lists}
use Rattle.schemes.specs.Enrolment.{at_begin}
use Rattle.schemes.proofs.Counted.{six, basis_named}
use Rattle.schemes.proofs.Fielding.{joined_is}
use Rattle.schemes.proofs.enrolment.enrol.Goals as goal

pub enrol_by-requires-clause-based : goal.enrol_by-requires-clause-based
enrol_by-requires-clause-based c = let n = c.in_ok-numbers.ensures in basis_named c.args.rest.now n.0 _ n.1 (c.deref.ensures.0 ∙ n.2)

pub enrol_by-requires-clause-six : goal.enrol_by-requires-clause-six
enrol_by-requires-clause-six c = let n = c.in_ok-numbers.ensures in six c.args.rest.now n.0 _ n.1 (c.deref.ensures.0 ∙ n.2)

pub returns-in_err-enrol_by : goal.returns-in_err-enrol_by
returns-in_err-enrol_by c =
    let n = c.in_ok-numbers.ensures in
    let j = joined_is c.args.rest.now (lists c.args.tables.now.tables) (enrolling_book c.args.case.now) n.0 _ n.1 (c.deref.ensures.0 ∙ n.2) in
    let p = err_from_is_err_and c.from_residual-in_err-enrol_by.result c.from_residual-in_err-enrol_by.ensures.1 in
    let a = c.in_err-enrol_by.ensures in
    rw (p.1, p.2) (j ∙ ap at_begin a.0, a.1)
