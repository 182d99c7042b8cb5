-- A case in its phase.
use Rattle.std.specs.Prelude.{◌≡◌, IsNone}
use Rattle.cases.specs.declared.inforce.InForce.{InForce as Running}
use Rattle.cases.specs.Book.{Book}
use Rattle.cases.specs.Book as cases
use Rattle.cases.specs.Views.{enrolling_book, in_force_book}
use Rattle.sessions.specs.declared.session.Case.{Case}
use Rattle.sessions.specs.declared.session.Case.TheVariants.{Enrolling, InForce}
use Rattle.sessions.specs.declared.session.Phase.{Phase}
use Rattle.sessions.specs.declared.session.Phase.TheVariants as phase

-- the book of the case
abbrev pub book_of : Case → Book
book_of (Enrolling case) = enrolling_book case
book_of (InForce case) = in_force_book case

-- the phase of a book
abbrev pub phase_of : Phase → cases.Phase
phase_of phase.Enrolling = cases.enrolment
phase_of phase.InForce = cases.in_force

-- nothing is supposed
abbrev pub Plain : Case → Type 0
Plain c = (case : Running) → c ≡ InForce case → IsNone case.supposed
