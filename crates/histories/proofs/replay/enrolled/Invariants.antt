-- The invariant of `enrolled`: what is left to enter comes to the whole.
use Rattle.std.proofs.Common.{◌≡◌, map, drop}
use Rattle.cases.specs.Book.{beginning, run}
use Rattle.cases.specs.Views.{enrolling_book}
use Rattle.histories.specs.History.{called}
use Rattle.histories.proofs.replay.enrolled.Given as goal

abbrev pub invariant-loop-enrolment : goal.invariant-loop-enrolment
invariant-loop-enrolment g l =
    run (map (called g.L.Life.count) (drop l.enrolment-index l.enrolments)) (enrolling_book l.case)
    ≡ run (map (called g.L.Life.count) l.enrolments) beginning
