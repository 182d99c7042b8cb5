-- The book of a case, kept from its calls alone.
use Rattle.std.specs.Prelude.{ℕ, ◌+◌, cond, not, List, [], ◌∷◌, Some, None, Ok, Err, Option, Result, ◌==◌, nat_le, nat_lt, slice_index, slice_set}
use Rattle.refusals.specs.declared.Refusal.{Refusal}
use Rattle.refusals.specs.declared.Refusal.TheVariants.{NoSeat, Occupied, NoCount, ProductTooLarge, Vacant, AlreadyFailed, Ending}
use Rattle.patterns.specs.Seats.{seats as number_of_seats}
use Rattle.seats.specs.declared.seat.Mark.{Mark}
use Rattle.seats.specs.declared.seat.Mark.TheVariants.{Empty, Living, Failed}
use Rattle.seats.specs.declared.seat.Seat.{Seat}
use Rattle.seats.specs.Seats.{vacant, vacancies, living, failed, seat_at, product, first, greatest, is_empty, lives, ending, any_of}

-- a case is first enrolling, then in force
pub data Phase : Type 0 where
  enrolment : Phase
  in_force : Phase

-- the phase, the seats' records, and the elapsed years
pub record Book : Type 0 where
  pub phase : Phase
  pub seats : List Seat
  pub elapsed : ℕ

-- the book of a case that is enrolling
abbrev pub opened : List Seat → Book
opened xs = record { phase = enrolment; seats = xs; elapsed = 0 }

-- the book of a case in force, after some elapsed years
abbrev pub running : List Seat → ℕ → Book
running xs years = record { phase = in_force; seats = xs; elapsed = years }

-- it opens enrolling, all seats empty with counts 0
abbrev pub beginning : Book
beginning = opened vacancies

-- a call: its kind, its seat and, to enrol, the counts that the life means
pub data Call : Type 0 where
  enrol : ℕ → List ℕ → Call
  withdraw : ℕ → Call
  start : Call
  fail : ℕ → Call
  year_end : Call

-- accepted, or why not
abbrev pub Answer : Type 0
Answer = Result (Unit {0}) Refusal

-- why a life may not be enrolled: no such seat, not empty, no count in year 0, or with it the counts of year 0 multiply to too much
abbrev pub judge_enrol : List Seat → ℕ → List ℕ → Answer
judge_enrol xs i counts =
    cond (nat_le number_of_seats i) (Err NoSeat)
    (cond (not (is_empty (seat_at xs i).mark)) (Err Occupied)
    (cond (slice_index counts 0 == 0) (Err NoCount)
    (cond (nat_lt greatest (product first (slice_set xs i (living counts)))) (Err ProductTooLarge)
    (Ok tt))))

-- why a seat may not be withdrawn: no such seat, or empty
abbrev pub judge_withdraw : List Seat → ℕ → Answer
judge_withdraw xs i = cond (nat_le number_of_seats i) (Err NoSeat) (cond (is_empty (seat_at xs i).mark) (Err Vacant) (Ok tt))

-- whether a seat of this mark may fail
abbrev pub judge_mark : Mark → Answer
judge_mark Empty = Err Vacant
judge_mark Living = Ok tt
judge_mark Failed = Err AlreadyFailed

-- why a seat may not fail: no such seat, empty, or failed already
abbrev pub judge_fail : List Seat → ℕ → Answer
judge_fail xs i = cond (nat_le number_of_seats i) (Err NoSeat) (judge_mark (seat_at xs i).mark)

-- why a seat may not be supposed failed: as it may not fail
abbrev pub judge_suppose : List Seat → ℕ → Answer
judge_suppose = judge_fail

-- why a year may not end: a living seat's count of the next year is 0
abbrev pub judge_year_end : List Seat → ℕ → Answer
judge_year_end xs years = cond (any_of (ending (years + 1)) xs) (Err Ending) (Ok tt)

-- the answer to a call
abbrev pub judged : Call → Book → Answer
judged (enrol i counts) b = judge_enrol b.seats i counts
judged (withdraw i) b = judge_withdraw b.seats i
judged start b = Ok tt
judged (fail i) b = judge_fail b.seats i
judged year_end b = judge_year_end b.seats b.elapsed

-- the book with other seats
abbrev pub seating : Book → List Seat → Book
seating b xs = record { phase = b.phase; seats = xs; elapsed = b.elapsed }

-- what an accepted call does
abbrev pub done : Call → Book → Book
done (enrol i counts) b = seating b (slice_set b.seats i (living counts))
done (withdraw i) b = seating b (slice_set b.seats i vacant)
done start b = running b.seats 0
done (fail i) b = seating b (slice_set b.seats i (failed (seat_at b.seats i).counts))
done year_end b = record { phase = b.phase; seats = b.seats; elapsed = cond (any_of lives b.seats) (b.elapsed + 1) b.elapsed }

-- the new book if the call is accepted, else the old one
abbrev pub by_answer : Answer → Book → Book → Book
by_answer (Ok u) new old = new
by_answer (Err e) new old = old

-- one call: what it does if it is accepted, else nothing
abbrev pub step : Call → Book → Book
step call b = by_answer (judged call b) (done call b) b

-- the book after a row of calls
abbrev pub run : List Call → Book → Book
run [] b = b
run (call ∷ calls) b = run calls (step call b)

-- ---- suppositions
-- what a supposition of the seat i supposes: nothing where it is refused
abbrev pub supposing_by : Answer → ℕ → Option ℕ
supposing_by (Ok u) i = Some i
supposing_by (Err e) i = None

-- judged on the seats
abbrev pub supposing : List Seat → ℕ → Option ℕ
supposing xs i = supposing_by (judge_suppose xs i) i

-- the seats while a supposition stands: the supposed seat is marked failed
abbrev pub as_supposed : Option ℕ → List Seat → List Seat
as_supposed None xs = xs
as_supposed (Some i) xs = slice_set xs i (failed (seat_at xs i).counts)

-- the mark of the seat i while a supposition stands: failed if it is the supposed one
abbrev pub seen_mark : Option ℕ → ℕ → Mark → Mark
seen_mark None i m = m
seen_mark (Some j) i m = cond (j == i) Failed m
