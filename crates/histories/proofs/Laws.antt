-- The law of a case in force, from what its answers and the invariants of its seats say.
use Rattle.std.proofs.Common.{◌≡◌, ℕ, ◌≤◌, Bool, true, false, cond, Ok, Err, Result, refl, ap, ◌∙◌, subst, ap₂, ⊎_elim}
use Rattle.std.proofs.lemmas.Bool.{cases_Bool, le-ltb}
use Rattle.refusals.specs.declared.Refusal.{Refusal}
use Rattle.refusals.specs.declared.Refusal.TheVariants.{Number, Uneven, Vacant, Year}
use Rattle.patterns.specs.Seats.{seats}
use Rattle.patterns.specs.Anys.{is_member}
use Rattle.patterns.proofs.Anys.{any_none}
use Rattle.benefits.specs.declared.benefit.Benefit.{Benefit}
use Rattle.benefits.specs.Shares.{share}
use Rattle.weights.specs.Numbers.{uneven}
use Rattle.weights.proofs.Evens.{only_even, even_only}
use Rattle.seats.specs.Seats.{seat_at, is_empty}
use Rattle.routes.specs.declared.route.Route.{Route}
use Rattle.routes.specs.declared.route.Route.TheVariants.{Patterns, Subsets, Counts}
use Rattle.cases.specs.Book.{Book, Answer}
use Rattle.cases.specs.Weighing.{weight_of, vacant_at, vacancy}
use Rattle.cases.specs.Routing.{ByNumber, judge_route, judge_routed}
use Rattle.annuities.specs.Values.{accepted, yearly_of, factored, CutOf}
use Rattle.histories.specs.declared.calls.Account.{Account}
use Rattle.histories.specs.Law.{Accepted, Routes, FactorCut, Factors, Answered}

-- ---- a benefit that is accepted
one-accepted : (n e : Bool) → (n ≡ true → e ≡ false) → cond n e false ≡ false
one-accepted true e h = h refl
one-accepted false e h = refl

none-vacant : (b : Book) (x : Benefit) → Accepted b x → vacancy b x ≡ false
none-vacant b x h = any_none (vacant_at b x.named) seats (λ i q. one-accepted (is_member x.named i) (is_empty (seat_at b.seats i).mark) (h i q))

module _ (b : Book) (x : Benefit) (t : ℕ) (h : Accepted b x) (q : t ≤ 120) where
  -- only the route can still refuse it
  judged_by : (route : Route) → judge_routed b x t route ≡ judge_route route x
  judged_by route = ap₂ (λ (u v : Bool). cond u (Err Year) (cond v (Err Vacant) (judge_route route x))) (le-ltb 120 t q) (none-vacant b x h)

  by_number : ByNumber x → judge_routed b x t Counts ≡ Ok tt
  by_number o = judged_by Counts ∙ ap (λ (u : Bool). cond u (Err Uneven) (Ok tt)) (only_even seats (share x) x.named o)

  not_by_number : (ByNumber x → ⊥) → judge_routed b x t Counts ≡ Err Uneven
  not_by_number o =
      judged_by Counts
      ∙ ⊎_elim (λ (e : uneven seats (share x) x.named ≡ true). ap (λ (u : Bool). cond u (Err Uneven) (Ok tt)) e)
      (λ (e : uneven seats (share x) x.named ≡ false). absurd (o (even_only seats (share x) x.named e)))
      (cases_Bool (uneven seats (share x) x.named))

  -- (a)
  pub routes : (i : ℕ) (a : Account) → Answered b x t i a → Routes b x t a
  routes i a r =
      let ok = λ (p : Answer). accepted {X = ℕ} p (Ok (weight_of b x t)) in
      record {
        by_patterns = r.by_patterns.weight ∙ ap ok (judged_by Patterns);
        by_subsets = r.by_subsets.weight ∙ ap ok (judged_by Subsets);
        by_counts = λ o. r.by_counts.weight ∙ ap ok (by_number o);
        by_counts_refused = λ o. r.by_counts.weight ∙ ap ok (not_by_number o);
      }

  -- (c)
  module _ (i : ℕ) (low : i ≤ 10000) where
    factor_is : (route : Route) (f : Result ℕ Refusal) → judge_routed b x t route ≡ Ok tt → f ≡ factored b x i t route → f ≡ Ok (yearly_of b x i t)
    factor_is route f ok e =
        e ∙ ap₂ (λ (u : Bool) (p : Answer). cond u (Err Number) (accepted {X = ℕ} p (Ok (yearly_of b x i t)))) (le-ltb 10000 i low) ok

    cut_is : (route : Route) (f : Result ℕ Refusal) → judge_routed b x t route ≡ Ok tt → f ≡ factored b x i t route → CutOf f b x i t → FactorCut b x t i f
    cut_is route f ok e cut = let is = factor_is route f ok e in (yearly_of b x i t, (is, subst (λ (g : Result ℕ Refusal). CutOf g b x i t) is cut))

    pub factors : (a : Account) → Answered b x t i a → CutOf a.patterns.factor b x i t → CutOf a.subsets.factor b x i t → CutOf a.counts.factor b x i t → Factors b x t i a
    factors a r p s c = record {
      by_patterns = cut_is Patterns a.patterns.factor (judged_by Patterns) r.by_patterns.factor p;
      by_subsets = cut_is Subsets a.subsets.factor (judged_by Subsets) r.by_subsets.factor s;
      by_counts = λ o. cut_is Counts a.counts.factor (by_number o) r.by_counts.factor c;
    }
