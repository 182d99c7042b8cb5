-- What the book of a case gives for the weight of a benefit in a year.
use Rattle.std.specs.Prelude.{ℕ, ◌+◌, ◌*◌, Bool, false, cond, List, map, slice_index}
use Rattle.patterns.specs.Seats.{seats as number_of_seats}
use Rattle.patterns.specs.Patterns.{flags}
use Rattle.patterns.specs.Anys.{any_to, is_member}
use Rattle.benefits.specs.declared.benefit.Benefit.{Benefit}
use Rattle.benefits.specs.Shares.{share}
use Rattle.weights.specs.declared.exposure.Exposure.{Exposure}
use Rattle.weights.specs.Exposures.{lost}
use Rattle.weights.specs.Weights.{weight, product_named}
use Rattle.seats.specs.declared.seat.Mark.{Mark}
use Rattle.seats.specs.declared.seat.Mark.TheVariants.{Empty, Living, Failed}
use Rattle.seats.specs.declared.seat.Seat.{Seat}
use Rattle.seats.specs.Seats.{seat_at, present, is_empty}
use Rattle.cases.specs.Book.{Book}

-- A living seat's count for year t from now is that of year s + t, and its present count that of year s. A failed seat has count 0 and present count 1.
-- An empty one is in no weight; it stands as a failed one.
abbrev pub exposure_by : Mark → ℕ → ℕ → Exposure
exposure_by Empty a r = lost
exposure_by Living a r = record { count = a; present = r }
exposure_by Failed a r = lost

-- the exposure of a seat for year t, after s elapsed years
abbrev pub exposure_for : ℕ → ℕ → Seat → Exposure
exposure_for s t x = exposure_by x.mark (slice_index x.counts (s + t)) (slice_index x.counts s)

-- all seats for the weight of year t
abbrev pub exposures_for : Book → ℕ → List Exposure
exposures_for b t = map (exposure_for b.elapsed t) b.seats

-- the weight for year t: the sum over all patterns of the named seats
unfoldable pub weight_of : Book → Benefit → ℕ → ℕ
weight_of b x t = weight (exposures_for b t) x.named (share x)

-- the full weight: twenty times the product of the present counts of the named seats
unfoldable pub full_of : Book → Benefit → ℕ
full_of b x = 20 * product_named (flags number_of_seats x.named) (present b.elapsed) b.seats

-- is the seat i named and empty
abbrev pub vacant_at : Book → ℕ → ℕ → Bool
vacant_at b N i = cond (is_member N i) (is_empty (seat_at b.seats i).mark) false

-- is any named seat empty
abbrev pub vacancy : Book → Benefit → Bool
vacancy b x = any_to number_of_seats (vacant_at b x.named)
