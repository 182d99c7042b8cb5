-- What a session holds between two lines.
use Rattle.std.specs.Prelude.{ℕ, List, [], replicate}
use Rattle.cases.specs.Book.{Book}
use Rattle.cases.specs.Book as cases
use Rattle.schemes.specs.Most.{table_count}
use Rattle.schemes.specs.Counts.{lists}
use Rattle.sessions.specs.Phases.{book_of}
use Rattle.sessions.specs.declared.session.Session.{Session}

-- the book, the counts of each table, and the rate
pub record State : Type 0 where
  pub book : Book
  pub tables : List (List ℕ)
  pub rate : ℕ

-- what a session holds
abbrev pub state_of : Session → State
state_of s = record { book = book_of s.case; tables = lists s.tables.tables; rate = s.rate }

-- a session before its first line
abbrev pub beginning : State
beginning = record { book = cases.beginning; tables = replicate table_count []; rate = 0 }

-- the state with another book
abbrev pub with_book : Book → State → State
with_book b s = record { book = b; tables = s.tables; rate = s.rate }
