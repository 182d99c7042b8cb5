-- A history of a case: enrolments and withdrawals, one start, then failures, year ends, suppositions, weighings and valuings, and perhaps a supposition that stands now.
-- Its book is kept from the calls alone; a call that is refused on the book changes nothing there.
use Rattle.std.specs.Prelude.{ℕ, List, [], ◌∷◌, ◌++◌, map, Some, None, Option}
use Rattle.lives.specs.Column.{column}
use Rattle.cases.specs.Book.{Book, Call, enrol, withdraw, start, fail, year_end, beginning, seating, step, run, as_supposed, supposing}
use Rattle.histories.specs.declared.calls.Enrolment.{Enrolment}
use Rattle.histories.specs.declared.calls.Enrolment.TheVariants.{Enrol, Withdraw}
use Rattle.histories.specs.declared.calls.Event.{Event}
use Rattle.histories.specs.declared.calls.Event.TheVariants.{Fail, YearEnd, Suppose, Look}

-- the call of an enrolment: of a life it has the 121 counts that the life means
abbrev pub called : {L : Type 0} → (L → ℕ → ℕ) → Enrolment L → Call
called count (Enrol seat life) = enrol seat (column (count life))
called count (Withdraw seat) = withdraw seat

-- the calls of an event: a supposition that has ended, a weighing and a valuing make none
abbrev pub calls_of : Event → List Call
calls_of (Fail seat) = fail seat ∷ []
calls_of YearEnd = year_end ∷ []
calls_of (Suppose seat looks) = []
calls_of (Look look) = []

-- the calls of a row of events
abbrev pub calls : List Event → List Call
calls [] = []
calls (e ∷ es) = calls_of e ++ calls es

-- the book at the end of a history, but for a supposition
abbrev pub book : {L : Type 0} → (L → ℕ → ℕ) → List (Enrolment L) → List Event → Book
book count enrolments events = run (calls events) (step start (run (map (called count) enrolments) beginning))

-- the book with a seat supposed failed: as it is where the seat is refused
abbrev pub supposed_now : Option ℕ → Book → Book
supposed_now None b = b
supposed_now (Some seat) b = seating b (as_supposed (supposing b.seats seat) b.seats)
