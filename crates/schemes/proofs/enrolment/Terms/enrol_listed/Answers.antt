-- What is left to show of `Terms::enrol_listed`.
use Rattle.std.proofs.Common.{Err, sym, refl, ap, ◌∙◌, subst}
use Rattle.std.proofs.lemmas.Result.{err_from_is_err_and}
use Rattle.cases.specs.Views.{enrolling_book}
use Rattle.schemes.specs.Enrolment.{enrolled, Leaves}
use Rattle.schemes.proofs.Enrolments.{by_table_is, by_table_not}
use Rattle.schemes.proofs.enrolment.Terms.enrol_listed.Goals as goal

pub returns : goal.returns
returns c =
    let l = c.in_ok-load.ensures in
    let b = enrolling_book c.args.case.now in
    let e = by_table_is c.args.list.now c.load.new.self.counts l.0 l.1 in
    subst (λ r. Leaves (enrolled r c.args.self.seat c.args.self.aged c.args.self.factor b) c.enrol.result (enrolling_book c.enrol.new.case) b) e c.enrol.ensures

pub returns-in_err-load : goal.returns-in_err-load
returns-in_err-load c =
    let b = enrolling_book c.args.case.now in
    let p = err_from_is_err_and c.from_residual.result c.from_residual.ensures.1 in
    rw (p.1, p.2)
    (ap (λ r. enrolled r c.args.self.seat c.args.self.aged c.args.self.factor b) (by_table_not c.args.list.now c.in_err-load.ensures.1) ∙ ap (λ r. Err r) (sym c.in_err-load.ensures.0), refl)
