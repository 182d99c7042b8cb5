-- The invariant of `carry_all`: what is left to do from here comes to the whole.
use Rattle.std.proofs.Common.{◌≡◌, drop}
use Rattle.cases.specs.Book.{run}
use Rattle.cases.specs.Views.{in_force_book}
use Rattle.histories.specs.History.{calls}
use Rattle.histories.proofs.replay.carry_all.Given as goal

abbrev pub invariant-loop-event : goal.invariant-loop-event
invariant-loop-event l = (run (calls (drop l.event-index l.events)) (in_force_book l.case) ≡ run (calls l.events) (in_force_book l.initial.case)) × (l.case.supposed ≡ l.initial.case.supposed)
