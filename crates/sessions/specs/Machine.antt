-- What a line of each kind does.
use Rattle.std.specs.Prelude.{◌≡◌, ℕ, Bool, true, false, List, Some, None, Ok, Err, Option, Result}
use Rattle.refusals.specs.declared.Refusal.TheVariants as refusal
use Rattle.benefits.specs.declared.benefit.Benefit.{Benefit}
use Rattle.benefits.specs.declared.faults.BenefitFault.{BenefitFault}
use Rattle.benefits.specs.Reads.{BenefitRead}
use Rattle.cases.specs.Book.{Phase, enrolment, in_force, Book, beginning, start, withdraw, fail, year_end}
use Rattle.annuities.specs.declared.valuation.Valuation.{Valuation}
use Rattle.annuities.specs.Values.{valued}
use Rattle.routes.specs.declared.route.Route.TheVariants.{Patterns}
use Rattle.lines.specs.declared.kind.Kind.{Kind}
use Rattle.lines.specs.declared.kind.Kind.TheVariants as kind
use Rattle.lines.specs.Kinds.{kind_of, after_kind}
use Rattle.schemes.specs.declared.fault.Fault.{Fault}
use Rattle.schemes.specs.declared.fault.Fault.TheVariants.{At}
use Rattle.schemes.specs.Faults.{of_benefit}
use Rattle.schemes.specs.Syntax.{one, none, by_read, amount, clauses_text, clauses_place}
use Rattle.schemes.specs.Enrolment.{call, at_begin, joined}
use Rattle.schemes.specs.Counts.{appended}
use Rattle.sessions.specs.State.{State, with_book}

-- T, L, W, F belong to enrolling, X, Y, B, E to in force, R to both
abbrev pub belongs : Kind → Phase → Bool
belongs kind.Table enrolment = true
belongs kind.Table in_force = false
belongs kind.Life enrolment = true
belongs kind.Life in_force = false
belongs kind.Withdraw enrolment = true
belongs kind.Withdraw in_force = false
belongs kind.Rate p = true
belongs kind.Start enrolment = true
belongs kind.Start in_force = false
belongs kind.Fail enrolment = false
belongs kind.Fail in_force = true
belongs kind.YearEnd enrolment = false
belongs kind.YearEnd in_force = true
belongs kind.Close enrolment = false
belongs kind.Close in_force = true
belongs kind.Benefit enrolment = false
belongs kind.Benefit in_force = true

-- what a line that is not refused leaves, and what it says
pub record Done : Type 0 where
  pub state : State
  pub said : Option Valuation

-- a line that says nothing
abbrev pub quiet : State → Done
quiet s = record { state = s; said = None }

-- a line that changes the book alone
abbrev pub on_book : State → Result Book Fault → Result Done Fault
on_book s (Ok b) = Ok (quiet (with_book b s))
on_book s (Err e) = Err e

-- a line that changes the tables alone
abbrev pub on_tables : State → Result (List (List ℕ)) Fault → Result Done Fault
on_tables s (Ok ts) = Ok (quiet (record { book = s.book; tables = ts; rate = s.rate }))
on_tables s (Err e) = Err e

-- a line that changes the rate alone
abbrev pub on_rate : State → Result ℕ Fault → Result Done Fault
on_rate s (Ok n) = Ok (quiet (record { book = s.book; tables = s.tables; rate = n }))
on_rate s (Err e) = Err e

-- a line that says a valuation and changes nothing
abbrev pub saying : State → Result Valuation Fault → Result Done Fault
saying s (Ok v) = Ok (record { state = s; said = Some v })
saying s (Err e) = Err e

-- W seat
abbrev pub withdrawn : List ℕ → Book → Result Book Fault
withdrawn rest b = by_read (one kind.Withdraw rest) (λ seat. at_begin (call (withdraw seat) b))

-- X seat
abbrev pub failed : List ℕ → Book → Result Book Fault
failed rest b = by_read (one kind.Fail rest) (λ seat. at_begin (call (fail seat) b))

-- F
abbrev pub started : List ℕ → Book → Result Book Fault
started rest b = by_read (none kind.Start rest) (λ _. at_begin (call start b))

-- Y
abbrev pub aged : List ℕ → Book → Result Book Fault
aged rest b = by_read (none kind.YearEnd rest) (λ _. at_begin (call year_end b))

-- E: a new case is enrolling
abbrev pub closed : List ℕ → Result Book Fault
closed rest = by_read (none kind.Close rest) (λ _. Ok beginning)

-- the value of the benefit that was read, or why it has none
abbrev pub by_benefit : ℕ → Result Benefit BenefitFault → Book → ℕ → Result Valuation Fault
by_benefit place (Err e) b rate = Err (of_benefit place e)
by_benefit place (Ok x) b rate = at_begin (valued b x rate Patterns)

-- how many words and answers a reader keeps
abbrev pub listed : ℕ
listed = 64

-- B amount clauses: the amount, then the benefit that its clauses read, then its value
abbrev pub Values : Result ℕ Fault → List ℕ → Book → ℕ → Result Valuation Fault → Type 0
Values (Err e) rest b rate v = v ≡ Err e
Values (Ok n) rest b rate v = (r : Result Benefit BenefitFault) × BenefitRead r n (clauses_text rest) listed listed × (v ≡ by_benefit (clauses_place rest) r b rate)

-- what a line of each kind does in its phase: the number of its fields, the fields left to right, then its call
abbrev pub Does : Kind → List ℕ → State → Result Done Fault → Type 0
Does kind.Table rest s d = d ≡ on_tables s (appended rest s.tables)
Does kind.Life rest s d = d ≡ on_book s (joined rest s.tables s.book)
Does kind.Withdraw rest s d = d ≡ on_book s (withdrawn rest s.book)
Does kind.Rate rest s d = d ≡ on_rate s (one kind.Rate rest)
Does kind.Start rest s d = d ≡ on_book s (started rest s.book)
Does kind.Fail rest s d = d ≡ on_book s (failed rest s.book)
Does kind.YearEnd rest s d = d ≡ on_book s (aged rest s.book)
Does kind.Close rest s d = d ≡ on_book s (closed rest)
Does kind.Benefit rest s d = (v : Result Valuation Fault) × Values (amount rest) rest s.book s.rate v × (d ≡ saying s v)

-- the phase and the kind together decide what a line may do
abbrev pub Allowed : Bool → Kind → List ℕ → State → Result Done Fault → Type 0
Allowed true k rest s d = Does k rest s d
Allowed false k rest s d = d ≡ Err (At 0 refusal.Phase)

-- what a line of a kind does in the phase of the book
abbrev pub Acts : Kind → List ℕ → State → Result Done Fault → Type 0
Acts k rest s d = Allowed (belongs k s.book.phase) k rest s d

-- a line: its kind with the space or the line's end after it, then its phase, then what its kind does
abbrev pub Named : Option Kind → List ℕ → State → Result Done Fault → Type 0
Named None rest s d = d ≡ Err (At 0 refusal.Line)
Named (Some k) rest s d = Acts k rest s d

-- what a line does
abbrev pub Lined : List ℕ → State → Result Done Fault → Type 0
Lined line s d = Named (kind_of line) (after_kind line) s d

-- what was done, by the answer and the state after it
abbrev pub done_by : Result (Option Valuation) Fault → State → Result Done Fault
done_by (Ok v) s = Ok (record { state = s; said = v })
done_by (Err e) s = Err e

-- a refused line changes nothing
abbrev pub Kept : Result (Option Valuation) Fault → State → State → Type 0
Kept (Ok v) new old = Unit {0}
Kept (Err e) new old = new ≡ old
