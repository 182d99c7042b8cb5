-- Which numbers are those of seats.
use Rattle.std.specs.Prelude.{◌≡◌, ℕ, ◌≤◌, MatchResult, Result}
use Rattle.patterns.specs.Seats.{seats}
use Rattle.refusals.specs.declared.Refusal.{Refusal}
use Rattle.refusals.specs.declared.Refusal.TheVariants.{NoSeat}
use Rattle.seats.specs.declared.number.SeatNumber.{SeatNumber}
use Rattle.seats.specs.Seats.{Seated}

-- a number below that of the seats is the seat's, and any other is refused
abbrev pub Taken : ℕ → Result SeatNumber Refusal → Type 0
Taken i r = MatchResult r (λ s. (s.index ≡ i) × Seated i) (λ e. (e ≡ NoSeat) × (seats ≤ i))
