-- The needs of `carry_all`.
use Rattle.std.proofs.Common.{ap, ◌∙◌}
use Rattle.cases.specs.Book.{run}
use Rattle.cases.specs.Views.{in_force_book}
use Rattle.histories.specs.History.{calls, calls_of}
use Rattle.histories.proofs.Replays.{carry_more, carry_all}
use Rattle.histories.proofs.replay.carry_all.Goals as goal

pub loop-event-preserved : goal.loop-event-preserved
loop-event-preserved c =
    let es = c.args.events.now in (
      carry_more es c.loop-event.event-index c.event-item.result (in_force_book c.loop-event.case) (in_force_book c.carry.new.case) (run (calls es) (in_force_book c.args.case.now)) c.loop-event-test.true c.loop-event.invariant.0
          (c.carry.ensures.book ∙ ap (λ e. run (calls_of e) (in_force_book c.loop-event.case)) c.event-item.is),
      c.carry.ensures.supposed ∙ c.loop-event.invariant.1,
    )

pub returns : goal.returns
returns c =
    let es = c.args.events.now in
    record {
      book = carry_all es c.loop-event.event-index (in_force_book c.loop-event.case) (run (calls es) (in_force_book c.args.case.now)) c.loop-event-test.false c.loop-event.invariant.0;
      supposed = c.loop-event.invariant.1;
    }
