-- What is left to show of `Terms::enrol`.
use Rattle.std.proofs.Common.{min, List, replicate, ap, ◌∙◌}
use Rattle.cases.specs.Book.{judged, step, enrol}
use Rattle.cases.specs.Views.{enrolling_book}
use Rattle.schemes.specs.Most.{year_count}
use Rattle.schemes.specs.Enrolment.{adjusted}
use Rattle.schemes.proofs.Enrolments.{same_counts, call_answer, call-after, enrolled_is, leaves_from, answer_of, after}
use Rattle.schemes.proofs.enrolment.Terms.enrol.Goals as goal

pub returns : goal.returns
returns g c =
    let x = c.scale_all.new.self in
    let n = c.in_ok-scale_all.ensures in
    let whole = n.1 ∙ c.new-life.ensures.0 in
    let same = same_counts g.B.Life.count x.life.life c.args.basis x.life.by (min c.args.self.aged year_count) x.factors (replicate year_count c.args.self.factor)
    (ap (λ a. a.life) whole ∙ c.new.ensures.0) (ap (λ a. a.by) whole ∙ c.new.ensures.1) n.2 in
    let b = enrolling_book c.args.case.now in
    let call = enrol c.args.self.seat (adjusted (g.B.Life.count c.args.basis) c.args.self.aged c.args.self.factor) in
    let e = enrolled_is (g.B.Life.count c.args.basis) c.args.self.seat c.args.self.aged c.args.self.factor b n.0 in
    leaves_from _ c.enrol.result (enrolling_book c.enrol.new.self) b
    (c.enrol.ensures.answer ∙ ap (λ (xs : List _). judged (enrol c.args.self.seat xs) b) same ∙ call_answer call b ∙ ap answer_of e)
    (c.enrol.ensures.after ∙ ap (λ (xs : List _). step (enrol c.args.self.seat xs) b) same ∙ call-after call b ∙ ap (λ r. after r b) e)
