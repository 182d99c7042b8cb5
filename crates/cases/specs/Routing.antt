-- What the book of a case gives for the weight of a benefit in a year by each of the routes.
use Rattle.std.specs.Prelude.{◌≡◌, ℕ, ◌+◌, ◌*◌, ◌≤◌, cond, ℤ, pos, ◌+ℤ◌, Ok, Err, Result, nat_lt, unsigned_abs}
use Rattle.refusals.specs.declared.Refusal.{Refusal}
use Rattle.refusals.specs.declared.Refusal.TheVariants.{Uneven, Vacant, Year}
use Rattle.patterns.specs.Seats.{patterns}
use Rattle.patterns.specs.Seats.{seats as number_of_seats}
use Rattle.patterns.specs.Patterns.{size, flags, below}
use Rattle.benefits.specs.declared.benefit.Benefit.{Benefit}
use Rattle.benefits.specs.Shares.{share}
use Rattle.weights.specs.declared.weight.Weight.{Weight}
use Rattle.weights.specs.Weights.{pattern_term, product_named}
use Rattle.weights.specs.Differences.{Δ}
use Rattle.weights.specs.Numbers.{OnlyNumber, uneven, share_with}
use Rattle.weights.specs.Routes.{subset_term, symmetric_sum, count_term, reach}
use Rattle.routes.specs.declared.route.Route.{Route}
use Rattle.routes.specs.declared.route.Route.TheVariants.{Patterns, Subsets, Counts}
use Rattle.seats.specs.Seats.{present}
use Rattle.cases.specs.Book.{Book, Answer}
use Rattle.cases.specs.Weighing.{exposures_for, weight_of, full_of, vacancy}

-- D: the product of the present counts of the named seats
abbrev pub present_of : Book → Benefit → ℕ
present_of b x = product_named (flags number_of_seats x.named) (present b.elapsed) b.seats

-- ---- the routes
-- what a route adds at a pattern, a set or an order, by its number
abbrev pub summand : Route → Book → Benefit → ℕ → ℕ → ℤ
summand Patterns b x t p = pos (pattern_term (exposures_for b t) x.named (share x) p)
summand Subsets b x t j = subset_term (exposures_for b t) x.named (share x) j
summand Counts b x t j = count_term (exposures_for b t) x.named (share x) j

-- how many summands a route has: the patterns, the sets, or the orders from 0 to the number of the named
abbrev pub summands : Route → Benefit → ℕ
summands Patterns x = patterns
summands Subsets x = patterns
summands Counts x = size (flags number_of_seats x.named) + 1

-- what a route has added up before its m-th summand
unfoldable pub sum_to : Route → Book → Benefit → ℕ → ℕ → ℤ
sum_to route b x t m = below ◌+ℤ◌ (pos 0) m (summand route b x t)

-- only the number of the named alive matters to the share
abbrev pub ByNumber : Benefit → Type 0
ByNumber x = OnlyNumber number_of_seats (share x) x.named

-- ---- refusals
-- why the shares may not be taken by number: two patterns of the named seats with equally many alive have different shares
abbrev pub judge_number : Benefit → Answer
judge_number x = cond (uneven number_of_seats (share x) x.named) (Err Uneven) (Ok tt)

-- what a route asks of a benefit
abbrev pub judge_route : Route → Benefit → Answer
judge_route Patterns x = Ok tt
judge_route Subsets x = Ok tt
judge_route Counts x = judge_number x

-- why a benefit may not be weighed for a year by a route: the year is above 120, a named seat is empty, or the route does not take it
abbrev pub judge_routed : Book → Benefit → ℕ → Route → Answer
judge_routed b x t route = cond (nat_lt 120 t) (Err Year) (cond (vacancy b x) (Err Vacant) (judge_route route x))

-- ---- the answers
-- a weight: the route's own sum, which is the sum over all patterns; every sum on the way is within 820 products (for four seats); by counts, only the number alive matters
pub record RouteWeighed (route : Route) (b : Book) (x : Benefit) (t : ℕ) (w : Weight) : Type 0 where
  pub by_route : pos w.weight ≡ sum_to route b x t (summands route x)
  pub by_patterns : w.weight ≡ weight_of b x t
  pub full : w.full ≡ full_of b x
  pub on_the_way : (m : ℕ) → m ≤ summands route x → unsigned_abs (sum_to route b x t m) ≤ reach number_of_seats * present_of b x
  pub by_number : route ≡ Counts → ByNumber x

-- the answer of a weighing: a weight, or why it is refused; refused as uneven, more than the number alive matters
abbrev pub Answered : Result Weight Refusal → Route → Book → Benefit → ℕ → Type 0
Answered (Ok w) route b x t = (judge_routed b x t route ≡ Ok tt) × RouteWeighed route b x t w
Answered (Err e) route b x t = (judge_routed b x t route ≡ Err e) × (e ≡ Uneven → ByNumber x → ⊥)

-- Δ^j c_0, 0 for j above the number of the named: refused where a named seat is empty, then where more than the number alive matters
abbrev pub differenced : Book → Benefit → ℕ → Result ℤ Refusal
differenced b x j =
    cond (vacancy b x) (Err Vacant)
    (cond (uneven number_of_seats (share x) x.named) (Err Uneven)
    (Ok (cond (nat_lt (size (flags number_of_seats x.named)) j) (pos 0) (Δ j (share_with number_of_seats (share x) x.named) 0))))

-- S_j for year t: refused where the year is above 120, then where a named seat is empty
abbrev pub symmetric : Book → Benefit → ℕ → ℕ → Result ℕ Refusal
symmetric b x t j = cond (nat_lt 120 t) (Err Year) (cond (vacancy b x) (Err Vacant) (Ok (symmetric_sum (exposures_for b t) x.named j)))
