-- Yearly factors, factor and value of a benefit by the book of a case, with each cut where it is made.
use Rattle.std.specs.Prelude.{ℕ, ◌+◌, ◌*◌, ◌/◌, ◌^◌, ◌<◌, ◌≤◌, Ok, Err, Result}
use Rattle.refusals.specs.declared.Refusal.{Refusal}
use Rattle.patterns.specs.Patterns.{below}
use Rattle.benefits.specs.declared.benefit.Benefit.{Benefit}
use Rattle.cases.specs.Book.{Book, Answer}
use Rattle.cases.specs.Weighing.{weight_of, full_of}
use Rattle.cases.specs.Routing.{judge_routed}
use Rattle.routes.specs.declared.route.Route.{Route}
use Rattle.annuities.specs.declared.valuation.Valuation.{Valuation}
use Rattle.annuities.specs.Discounts.{discount, rated}

-- the part that the weight W is of the full weight F, in hundred-millionths
abbrev pub probability : ℕ → ℕ → ℕ
probability W F = W * 10 ^ 8 / F

-- the yearly factor under the discount v
abbrev pub yearly : ℕ → ℕ → ℕ → ℕ
yearly W F v = probability W F * v / 10 ^ 8

-- a yearly factor lies at or below W v / F, by less than 2
pub record Cut (W F v y : ℕ) : Type 0 where
  pub low : y * F ≤ W * v
  pub high : W * v < y * F + 2 * F

-- the yearly factor of year t at the rate i
abbrev pub yearly_of : Book → Benefit → ℕ → ℕ → ℕ
yearly_of b x i t = yearly (weight_of b x t) (full_of b x) (discount i t)

-- the factor sums the years 0 to 120
unfoldable pub factor_of : Book → Benefit → ℕ → ℕ
factor_of b x i = below ◌+◌ 0 121 (yearly_of b x i)

-- the value is the amount times the factor
abbrev pub value_of : Book → Benefit → ℕ → ℕ
value_of b x i = x.amount * factor_of b x i / 10 ^ 8

-- what is answered where a weighing is accepted
abbrev pub accepted : {X : Type 0} → Answer → Result X Refusal → Result X Refusal
accepted (Ok u) r = r
accepted (Err e) r = Err e

-- the answers of the calls, by any route: the rate is tested first, then what a weighing by that route tests
abbrev pub factored : Book → Benefit → ℕ → ℕ → Route → Result ℕ Refusal
factored b x i t route = rated i (accepted (judge_routed b x t route) (Ok (yearly_of b x i t)))

-- the factor, which is refused as a weighing for year 0 is
abbrev pub summed : Book → Benefit → ℕ → Route → Result ℕ Refusal
summed b x i route = rated i (accepted (judge_routed b x 0 route) (Ok (factor_of b x i)))

-- the factor and the value, refused as the factor is
abbrev pub valued : Book → Benefit → ℕ → Route → Result Valuation Refusal
valued b x i route = rated i (accepted (judge_routed b x 0 route) (Ok (record { factor = factor_of b x i; value = value_of b x i })))

-- an answered yearly factor is so cut
abbrev pub CutOf : Result ℕ Refusal → Book → Benefit → ℕ → ℕ → Type 0
CutOf (Ok y) b x i t = Cut (weight_of b x t) (full_of b x) (discount i t) y
CutOf (Err e) b x i t = Unit {0}
