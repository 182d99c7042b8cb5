-- The invariant of `test_seats`.
use Rattle.std.proofs.Common.{◌≡◌, false}
use Rattle.patterns.specs.Anys.{any_to}
use Rattle.cases.specs.Views.{book_of}
use Rattle.cases.specs.Weighing.{vacant_at}
use Rattle.cases.proofs.inforce.view.View.test_seats.Given as goal

abbrev pub invariant-loop-i : goal.invariant-loop-i
invariant-loop-i l = any_to l.i (vacant_at (book_of l.self) l.named) ≡ false
