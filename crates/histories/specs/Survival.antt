-- The weight of a benefit by who survives this year. The seats stand beside a set J, which has a flag for each of them; s years have elapsed.
use Rattle.std.specs.Prelude.{◌≡◌, ℕ, ◌+◌, ◌-◌, ◌*◌, Bool, true, false, cond, ◌&&◌, List, [], ◌∷◌, map, nat_le, slice_index}
use Rattle.patterns.specs.Anys.{is_member}
use Rattle.patterns.specs.Patterns.{Pattern, flags, below}
use Rattle.patterns.specs.Seats.{patterns}
use Rattle.patterns.specs.Seats.{seats as number_of_seats}
use Rattle.seats.specs.declared.seat.Seat.{Seat}
use Rattle.seats.specs.Seats.{Seated, seat_at, lives}
use Rattle.benefits.specs.declared.benefit.Benefit.{Benefit}
use Rattle.cases.specs.Book.{Book, fail, year_end, step, run}
use Rattle.cases.specs.Weighing.{weight_of}

-- a life that can survive this year: living, with a count of at least 1 for year 1
abbrev pub survives : ℕ → Seat → Bool
survives s x = lives x && nat_le 1 (slice_index x.counts (s + 1))

-- deaths this year: the present count less the count for year 1
abbrev pub deaths_in : ℕ → Seat → ℕ
deaths_in s x = slice_index x.counts s - slice_index x.counts (s + 1)

-- does the set hold living lives alone that can all survive this year
unfoldable pub survivors : ℕ → List Seat → Pattern → Bool
survivors s [] J = true
survivors s (x ∷ xs) [] = true
survivors s (x ∷ xs) (true ∷ J) = survives s x && survivors s xs J
survivors s (x ∷ xs) (false ∷ J) = survivors s xs J

-- the numbers of the other living lives, from k on
unfoldable pub others : ℕ → List Seat → Pattern → List ℕ
others k [] J = []
others k (x ∷ xs) [] = []
others k (x ∷ xs) (true ∷ J) = others (k + 1) xs J
others k (x ∷ xs) (false ∷ J) = cond (lives x) (k ∷ others (k + 1) xs J) (others (k + 1) xs J)

-- their deaths this year, multiplied together
unfoldable pub deaths_of : ℕ → List Seat → Pattern → ℕ
deaths_of s [] J = 1
deaths_of s (x ∷ xs) [] = 1
deaths_of s (x ∷ xs) (true ∷ J) = deaths_of s xs J
deaths_of s (x ∷ xs) (false ∷ J) = cond (lives x) (deaths_in s x) 1 * deaths_of s xs J

-- the book after the others' failures and one year end, each by the book's own step
unfoldable pub year_on : Book → Pattern → Book
year_on b J = step year_end (run (map fail (others 0 b.seats J)) b)

-- every living life is named
abbrev pub NamesLiving : Book → Benefit → Type 0
NamesLiving b x = (i : ℕ) → Seated i → lives (seat_at b.seats i) ≡ true → is_member x.named i ≡ true

-- what the survivors J add to the weight for year t: the others' deaths times the weight for year t - 1 of the book one year on
abbrev pub survivors_term : Book → Benefit → ℕ → Pattern → ℕ
survivors_term b x t J = cond (survivors b.elapsed b.seats J) (deaths_of b.elapsed b.seats J * weight_of (year_on b J) x (t - 1)) 0

-- the weight for year t is the sum of that over all sets J
abbrev pub Survivors : Book → Benefit → ℕ → Type 0
Survivors b x t = weight_of b x t ≡ below ◌+◌ 0 patterns (λ p. survivors_term b x t (flags number_of_seats p))
