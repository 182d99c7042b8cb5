-- A seat's record, the seats of a case, and what is asked of them.
use Rattle.std.specs.Prelude.{◌≡◌, ℕ, ◌+◌, ◌*◌, ◌<◌, ◌≤◌, Bool, true, false, cond, List, [], ◌∷◌, length, replicate, ◌==◌, slice_index, slice_index_or}
use Rattle.std.specs.List.{list_any, count_by}
use Rattle.patterns.specs.Seats.{seats}
use Rattle.seats.specs.declared.seat.Mark.{Mark}
use Rattle.seats.specs.declared.seat.Mark.TheVariants.{Empty, Living, Failed}
use Rattle.seats.specs.declared.seat.Seat.{Seat}

-- the number is that of a seat
abbrev pub Seated : ℕ → Type 0
Seated i = i < seats

-- a seat's record of its counts and its mark
abbrev pub seat_of : List ℕ → Mark → Seat
seat_of xs m = record { counts = xs; mark = m }

-- an empty seat has counts 0
abbrev pub vacant : Seat
vacant = seat_of (replicate 121 0) Empty

-- a seat whose life lives, and one whose life has failed
abbrev pub living : List ℕ → Seat
living xs = seat_of xs Living

-- a failed seat keeps its counts
abbrev pub failed : List ℕ → Seat
failed xs = seat_of xs Failed

-- all seats empty
abbrev pub vacancies : List Seat
vacancies = replicate seats vacant

-- the record of a seat; past the seats there is none
abbrev pub seat_at : List Seat → ℕ → Seat
seat_at xs i = slice_index_or xs i (seat_of [] Empty)

-- the count of a seat in a year, 0 past its last
abbrev pub count_at : List Seat → ℕ → ℕ → ℕ
count_at xs i t = slice_index (seat_at xs i).counts t

-- is the mark that of an empty, a living, a failed seat
abbrev pub is_empty : Mark → Bool
is_empty Empty = true
is_empty Living = false
is_empty Failed = false

-- is a mark that of a living seat
abbrev pub is_living : Mark → Bool
is_living Empty = false
is_living Living = true
is_living Failed = false

-- is a mark that of a failed seat
abbrev pub is_failed : Mark → Bool
is_failed Empty = false
is_failed Living = false
is_failed Failed = true

-- is the seat living
abbrev pub lives : Seat → Bool
lives s = is_living s.mark

-- the seat is living and its count of a year is 0
abbrev pub ending : ℕ → Seat → Bool
ending t s = cond (is_living s.mark) (slice_index s.counts t == 0) false

-- does any seat pass a test
abbrev pub any_of : (Seat → Bool) → List Seat → Bool
any_of = list_any

-- how many seats have failed
abbrev pub failures : List Seat → ℕ
failures = count_by (λ s. is_failed s.mark)

-- what is counted of each seat, multiplied
abbrev pub product : (Seat → ℕ) → List Seat → ℕ
product f [] = 1
product f (x ∷ xs) = f x * product f xs

-- a count as it stands for an occupied seat, else 1
abbrev pub occupied : Mark → ℕ → ℕ
occupied Empty n = 1
occupied Living n = n
occupied Failed n = n

-- a count as it stands for a living seat, else 1
abbrev pub alive : Mark → ℕ → ℕ
alive Empty n = 1
alive Living n = n
alive Failed n = 1

-- a seat's count of year 0, and 1 where it is empty
abbrev pub first : Seat → ℕ
first s = occupied s.mark (slice_index s.counts 0)

-- a seat's present count after some years, and 1 where it is empty or failed
abbrev pub present : ℕ → Seat → ℕ
present years s = alive s.mark (slice_index s.counts years)

-- as many records as there are seats, each with 121 counts that never rise
abbrev pub Columns : List Seat → Type 0
Columns xs = (length xs ≡ seats) × ((i : ℕ) → i < seats → length (seat_at xs i).counts ≡ 121) × ((i t : ℕ) → count_at xs i (t + 1) ≤ count_at xs i t)

-- what the seats' counts may multiply to
abbrev pub greatest : ℕ
greatest = 10000000000000000

-- each seat counts as 1 or more, and together they multiply to at most the greatest product
abbrev pub Within : (Seat → ℕ) → List Seat → Type 0
Within f xs = ((i : ℕ) → 1 ≤ f (seat_at xs i)) × (product f xs ≤ greatest)
