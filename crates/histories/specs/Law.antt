-- The law of weights, for a benefit x, a year t and a rate i, by the book b of a case in force.
use Rattle.std.specs.Prelude.{◌≡◌, ℕ, ◌<◌, ◌≤◌, true, false, Ok, Err, Result}
use Rattle.refusals.specs.declared.Refusal.{Refusal}
use Rattle.refusals.specs.declared.Refusal.TheVariants.{Uneven}
use Rattle.patterns.specs.Seats.{seats}
use Rattle.patterns.specs.Anys.{is_member}
use Rattle.benefits.specs.declared.benefit.Benefit.{Benefit}
use Rattle.seats.specs.Seats.{seat_at, is_empty}
use Rattle.routes.specs.declared.route.Route.{Route}
use Rattle.routes.specs.declared.route.Route.TheVariants.{Patterns, Subsets, Counts}
use Rattle.cases.specs.Book.{Book}
use Rattle.cases.specs.Weighing.{weight_of, full_of}
use Rattle.cases.specs.Routing.{ByNumber, judge_routed}
use Rattle.annuities.specs.Discounts.{discount}
use Rattle.annuities.specs.Values.{Cut, accepted, factored, valued}
use Rattle.histories.specs.declared.calls.Worked.{Worked}
use Rattle.histories.specs.declared.calls.Account.{Account}
use Rattle.histories.specs.Survival.{NamesLiving, Survivors}

-- no named seat is empty
abbrev pub Accepted : Book → Benefit → Type 0
Accepted b x = (i : ℕ) → i < seats → is_member x.named i ≡ true → is_empty (seat_at b.seats i).mark ≡ false

-- ---- (a) the routes by patterns and by subsets answer the sum over all patterns of the named lives; the route by counts does so exactly when only the number of
-- named lives alive matters, and is otherwise refused as such
pub record Routes (b : Book) (x : Benefit) (t : ℕ) (a : Account) : Type 0 where
  pub by_patterns : a.patterns.weight ≡ Ok (weight_of b x t)
  pub by_subsets : a.subsets.weight ≡ Ok (weight_of b x t)
  pub by_counts : ByNumber x → a.counts.weight ≡ Ok (weight_of b x t)
  pub by_counts_refused : (ByNumber x → ⊥) → a.counts.weight ≡ Err Uneven

-- ---- (c) the yearly factor times the full weight is at most the weight times the discount, and falls short of it by less than two full weights
abbrev pub FactorCut : Book → Benefit → ℕ → ℕ → Result ℕ Refusal → Type 0
FactorCut b x t i r = (y : ℕ) × ((r ≡ Ok y) × Cut (weight_of b x t) (full_of b x) (discount i t) y)

-- by each route
pub record Factors (b : Book) (x : Benefit) (t i : ℕ) (a : Account) : Type 0 where
  pub by_patterns : FactorCut b x t i a.patterns.factor
  pub by_subsets : FactorCut b x t i a.subsets.factor
  pub by_counts : ByNumber x → FactorCut b x t i a.counts.factor

-- ---- the law; (b) is the sum over the survivors of this year
pub record Law (b : Book) (x : Benefit) (t i : ℕ) (a : Account) : Type 0 where
  pub routes : Accepted b x → t ≤ 120 → Routes b x t a
  pub survival : Accepted b x → NamesLiving b x → 1 ≤ t → t ≤ 120 → Survivors b x t
  pub factors : Accepted b x → t ≤ 120 → i ≤ 10000 → Factors b x t i a

-- ---- the whole answers, refusals too
-- by one route
pub record WorkedBy (route : Route) (b : Book) (x : Benefit) (t i : ℕ) (w : Worked) : Type 0 where
  pub weight : w.weight ≡ accepted (judge_routed b x t route) (Ok (weight_of b x t))
  pub factor : w.factor ≡ factored b x i t route
  pub valuation : w.valuation ≡ valued b x i route

-- by the three
pub record Answered (b : Book) (x : Benefit) (t i : ℕ) (a : Account) : Type 0 where
  pub by_patterns : WorkedBy Patterns b x t i a.patterns
  pub by_subsets : WorkedBy Subsets b x t i a.subsets
  pub by_counts : WorkedBy Counts b x t i a.counts
