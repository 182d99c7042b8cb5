-- What is left to show of `Terms::enrol_stepped`.
use Rattle.std.proofs.Common.{subst}
use Rattle.cases.specs.Views.{enrolling_book}
use Rattle.schemes.specs.Enrolment.{enrolled, Leaves}
use Rattle.schemes.proofs.Enrolments.{by_step_is}
use Rattle.schemes.proofs.enrolment.Terms.enrol_stepped.Goals as goal

pub returns : goal.returns
returns c =
    let l = c.in_ok-load.ensures in
    let b = enrolling_book c.args.case.now in
    let e = by_step_is c.args.years c.args.step c.load.new.self.years c.load.new.self.step l.0 l.1 l.2 l.3 in
    subst (λ r. Leaves (enrolled r c.args.self.seat c.args.self.aged c.args.self.factor b) c.enrol.result (enrolling_book c.enrol.new.case) b) e c.enrol.ensures
