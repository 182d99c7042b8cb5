-- The needs of `enrolled`.
use Rattle.std.proofs.Common.{map, ap, ◌∙◌}
use Rattle.cases.specs.Book.{beginning, step, run}
use Rattle.cases.specs.Views.{enrolling_book}
use Rattle.histories.specs.History.{called}
use Rattle.histories.proofs.Replays.{enter_more, enter_all}
use Rattle.histories.proofs.replay.enrolled.Goals as goal

pub loop-enrolment-preserved : goal.loop-enrolment-preserved
loop-enrolment-preserved g c =
    let count = g.L.Life.count in
    let es = c.args.enrolments.now in
    let b = enrolling_book c.loop-enrolment.case in
    enter_more count es c.loop-enrolment.enrolment-index c.enrolment-item.result b (enrolling_book c.enter.new.case) (run (map (called count) es) beginning)
    c.loop-enrolment-test.true c.loop-enrolment.invariant (c.enter.ensures ∙ ap (λ e. step (called count e) b) c.enrolment-item.is)

pub returns : goal.returns
returns g c =
    let count = g.L.Life.count in
    let es = c.args.enrolments.now in
    enter_all count es c.loop-enrolment.enrolment-index (enrolling_book c.loop-enrolment.case) (run (map (called count) es) beginning) c.loop-enrolment-test.false c.loop-enrolment.invariant
