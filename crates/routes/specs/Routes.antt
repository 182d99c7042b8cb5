-- What each route adds up, and what that comes to, over all seats. Only inner functions cite these.
use Rattle.std.specs.Prelude.{ℕ, List, ℤ, pos}
use Rattle.patterns.specs.Seats.{seats}
use Rattle.patterns.specs.Patterns.{size, number}
use Rattle.weights.specs.declared.exposure.Exposure.{Exposure}
use Rattle.weights.specs.Numbers.{share_with}
use Rattle.weights.specs.Patterns.{by_patterns}
use Rattle.weights.specs.AllSeats.{by_subsets, by_counts}
use Rattle.routes.specs.declared.route.Route.{Route}
use Rattle.routes.specs.declared.route.Route.TheVariants.{Patterns, Subsets, Counts}

-- what the route adds up; N is the set of named seats, f gives the share of a pattern by its number
abbrev pub route_over : Route → List Exposure → ℕ → (ℕ → ℕ) → ℤ
route_over Patterns xs N f = pos (by_patterns xs (λ P. f (number P)))
route_over Subsets xs N f = by_subsets xs (λ P. f (number P))
route_over Counts xs N f = by_counts xs (share_with seats f N)

-- the sum over all patterns that it comes to
abbrev pub answer_over : Route → List Exposure → ℕ → (ℕ → ℕ) → ℕ
answer_over Patterns xs N f = by_patterns xs (λ P. f (number P))
answer_over Subsets xs N f = by_patterns xs (λ P. f (number P))
answer_over Counts xs N f = by_patterns xs (λ P. share_with seats f N (size P))
