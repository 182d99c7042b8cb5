-- The book that each case answers to.
use Rattle.seats.specs.Seats.{failures}
use Rattle.cases.specs.declared.enrolling.Enrolling.{Enrolling}
use Rattle.cases.specs.declared.inforce.InForce.{InForce}
use Rattle.cases.specs.declared.inforce.Closed.{Closed}
use Rattle.cases.specs.declared.inforce.view.View.{View}
use Rattle.cases.specs.Book.{Book, opened, running, as_supposed}

-- of a case that is enrolling, and of one in force
abbrev pub enrolling_book : Enrolling → Book
enrolling_book c = opened c.table.seats

-- the book of a case in force
abbrev pub in_force_book : InForce → Book
in_force_book c = running c.table.seats c.elapsed

-- the book that the weighings of a case in force take: the same, with the supposed seat marked failed
abbrev pub shown_book : InForce → Book
shown_book c = running (as_supposed c.supposed c.table.seats) c.elapsed

-- the book that a view shows: the seat that it supposes marked failed
abbrev pub book_of : View → Book
book_of v = running (as_supposed v.supposed v.case.now.table.seats) v.case.now.elapsed

-- what closing a case answers: the elapsed years and how many seats have failed
abbrev pub closed : Book → Closed
closed b = record { elapsed = b.elapsed; failed = failures b.seats }
