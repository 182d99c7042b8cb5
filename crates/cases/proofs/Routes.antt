-- Each route answers the book's weight, and no sum on its way is far from 0.
use Rattle.std.proofs.Common.{◌≡◌, ℕ, ◌+◌, ◌*◌, ◌^◌, ◌<◌, ◌≤◌, Bool, true, false, cond, ltb, List, length, ℤ, pos, ◌+ℤ◌, nat_abs, Ok, Err, Result, sym, refl, ap, ◌∙◌, subst, le_trans, le_of_eq, mul-le-mul_right, zero-lt-suc, arith}
use mathlib.Core.Path.{fun_ext}
use native.Mathlib.Nat.{one-le-pow}
use lib.Count.{ones}
use Rattle.std.proofs.lemmas.Bool.{false≢true, cond-true, cond-false, lt-ltb, le-ltb}
use Rattle.refusals.specs.declared.Refusal.{Refusal}
use Rattle.refusals.specs.declared.Refusal.TheVariants.{Uneven, Vacant, Year}
use Rattle.patterns.specs.Seats.{patterns}
use Rattle.patterns.specs.Seats.{seats as number_of_seats}
use Rattle.patterns.specs.Patterns.{size, flags, below}
use Rattle.patterns.proofs.Loops.{below-map}
use Rattle.patterns.proofs.Masks.{ones_size, size_le, length-flags}
use Rattle.weights.specs.declared.exposure.Exposure.{Exposure}
use Rattle.weights.specs.declared.weight.Weight.{Weight}
use Rattle.weights.specs.Exposures.{Sound, D}
use Rattle.weights.specs.Weights.{pattern_term}
use Rattle.weights.specs.Differences.{Δ}
use Rattle.weights.specs.Numbers.{uneven, share_with}
use Rattle.weights.specs.Routes.{subset_term, symmetric_sum, count_term, reach}
use Rattle.weights.specs.Patterns.{kept, by_patterns}
use Rattle.weights.specs.AllSeats.{S}
use Rattle.weights.proofs.Agreement.{subsets_agree, numbers_agree, counts_agree, patterns_way, subsets_way, counts_way, symmetric-kept, symmetric_past}
use Rattle.weights.proofs.Evens.{even_only, only_even}
use Rattle.routes.specs.declared.route.Route.{Route}
use Rattle.routes.specs.declared.route.Route.TheVariants.{Patterns, Subsets, Counts}
use Rattle.routes.specs.Routes.{answer_over}
use Rattle.seats.specs.Seats.{present, Columns, Within}
use Rattle.benefits.specs.declared.benefit.Benefit.{Benefit}
use Rattle.benefits.specs.Shares.{share}
use Rattle.cases.specs.Book.{Book, Answer}
use Rattle.cases.specs.Weighing.{exposures_for, weight_of, vacancy}
use Rattle.cases.specs.Routing.{present_of, summands, sum_to, ByNumber, judge_number, judge_route, judge_routed, RouteWeighed, differenced}
use Rattle.cases.proofs.Weighings.{all_long, held_sound, weight_is, full_is, present_is}

-- ---- a benefit that the route takes, and one that it does not
wrong : {e : Refusal} → ◌≡◌ {A = Answer} (Ok tt) (Err e) → ⊥
wrong {e} h = let z : ◌≡◌ {A = ℕ} 0 1 = cc in omega arith

-- the tests before that of the route are passed
passed : (y v : Bool) (a : Answer) → cond y (Err Year) (cond v (Err Vacant) a) ≡ Ok tt → a ≡ Ok tt
passed true v a h = absurd (wrong (sym h))
passed false true a h = absurd (wrong (sym h))
passed false false a h = h

-- only the last test refuses so
last_test : (y v : Bool) (a : Answer) → cond y (Err Year) (cond v (Err Vacant) a) ≡ Err Uneven → a ≡ Err Uneven
last_test true v a h = let z : ◌≡◌ {A = ℕ} 0 1 = cc in absurd (omega arith)
last_test false true a h = let z : ◌≡◌ {A = ℕ} 0 1 = cc in absurd (omega arith)
last_test false false a h = h

number_taken : (u : Bool) → ◌≡◌ {A = Answer} (cond u (Err Uneven) (Ok tt)) (Ok tt) → u ≡ false
number_taken true h = absurd (wrong (sym h))
number_taken false h = refl

number-refused : (u : Bool) → ◌≡◌ {A = Answer} (cond u (Err Uneven) (Ok tt)) (Err Uneven) → u ≡ true
number-refused true h = refl
number-refused false h = absurd (wrong h)

route-refused : (route : Route) (x : Benefit) → judge_route route x ≡ Err Uneven → ByNumber x → ⊥
route-refused Patterns x h only = wrong h
route-refused Subsets x h only = wrong h
route-refused Counts x h only =
    false≢true (sym (only_even number_of_seats (share x) x.named only) ∙ number-refused (uneven number_of_seats (share x) x.named) h)

pub refused-uneven : (b : Book) (x : Benefit) (t : ℕ) (route : Route) (e : Refusal) → judge_routed b x t route ≡ Err e → e ≡ Uneven → ByNumber x → ⊥
refused-uneven b x t route e h is =
    route-refused route x (last_test (ltb 120 t) (vacancy b x) (judge_route route x) (h ∙ ap Err is))

pub taken_number : (x : Benefit) (route : Route) → judge_route route x ≡ Ok tt → route ≡ Counts → ByNumber x
taken_number x Patterns h is = absurd (let z : ◌≡◌ {A = ℕ} 0 1 = cc in omega arith)
taken_number x Subsets h is = absurd (let z : ◌≡◌ {A = ℕ} 0 1 = cc in omega arith)
taken_number x Counts h is = even_only number_of_seats (share x) x.named (number_taken (uneven number_of_seats (share x) x.named) h)

pub taken_route : (b : Book) (x : Benefit) (t : ℕ) (route : Route) → judge_routed b x t route ≡ Ok tt → judge_route route x ≡ Ok tt
taken_route b x t route h = passed (ltb 120 t) (vacancy b x) (judge_route route x) h

-- ---- what a route answers
module _ (b : Book) (columns : Columns b.seats) (within : Within (present b.elapsed) b.seats) (x : Benefit) (t : ℕ) where
  abbrev all : List Exposure
  all = exposures_for b t

  abbrev N : ℕ
  N = x.named

  long : length all ≡ number_of_seats
  long = all_long b columns within t N

  sound : Sound (kept (flags (length all) N) all)
  sound = subst (λ (n : ℕ). Sound (kept (flags n N) all)) (sym long) (held_sound b columns within t N)

  even : judge_number x ≡ Ok tt → uneven (length all) (share x) N ≡ false
  even h = ap (λ (n : ℕ). uneven n (share x) N) long ∙ number_taken (uneven number_of_seats (share x) N) h

  pub answers : (route : Route) → judge_route route x ≡ Ok tt → answer_over route (kept (flags number_of_seats x.named) (exposures_for b t)) x.named (share x) ≡ weight_of b x t
  unfolding weight_of
  answers Patterns h = weight_is b columns x t
  answers Subsets h = weight_is b columns x t
  answers Counts h =
      ap (λ (n : ℕ). by_patterns (kept (flags n N) all) (λ P. share_with n (share x) N (size P))) (sym long)
      ∙ numbers_agree all N (share x) sound (even h)

  adds_up : (route : Route) → judge_route route x ≡ Ok tt → sum_to route b x t (summands route x) ≡ pos (weight_of b x t)
  unfolding weight_of sum_to
  adds_up Patterns h =
      below-map ◌+◌ 0 ◌+ℤ◌ pos (λ u v. refl) patterns (pattern_term all N (share x))
      ∙ ap (λ (n : ℕ). pos (below ◌+◌ 0 (2 ^ n) (pattern_term all N (share x)))) (sym long)
  adds_up Subsets h = ap (λ (n : ℕ). below ◌+ℤ◌ (pos 0) (2 ^ n) (subset_term all N (share x))) (sym long) ∙ subsets_agree all N (share x) sound
  adds_up Counts h =
      ap (λ (n : ℕ). below ◌+ℤ◌ (pos 0) (size (flags n N) + 1) (count_term all N (share x))) (sym long)
      ∙ counts_agree all N (share x) sound (even h)

  near : (k m : ℕ) → k ≤ reach (length all) * D (kept (flags (length all) N) all) → k ≤ reach number_of_seats * present_of b x
  near k m h =
      le_trans h (le_of_eq (ap (λ (n : ℕ). reach n * D (kept (flags n N) all)) long ∙ ap (λ (d : ℕ). reach number_of_seats * d) (present_is b columns x t)))

  few : (d : ℕ) → 20 * d ≤ reach (length all) * d
  few d = mul-le-mul_right d (omega (arith, one-le-pow (length all) 3 (zero-lt-suc 2)))

  stays_near : (route : Route) (m : ℕ) → m ≤ summands route x → nat_abs (sum_to route b x t m) ≤ reach number_of_seats * present_of b x
  unfolding sum_to
  stays_near Patterns m h =
      near _ m (le_trans (le_of_eq (ap nat_abs (below-map ◌+◌ 0 ◌+ℤ◌ pos (λ u v. refl) m (pattern_term all N (share x)))))
      (le_trans (patterns_way all N (share x) sound x.shares.most m (subst (λ (n : ℕ). m ≤ 2 ^ n) (sym long) h)) (few (D (kept (flags (length all) N) all)))))
  stays_near Subsets m h = near _ m (subsets_way all N (share x) sound x.shares.most m (subst (λ (n : ℕ). m ≤ 2 ^ n) (sym long) h))
  stays_near Counts m h = near _ m (counts_way all N (share x) sound x.shares.most m)

  pub weighed : (route : Route) (w : Weight) → judge_routed b x t route ≡ Ok tt
      → w.weight ≡ answer_over route (kept (flags number_of_seats x.named) (exposures_for b t)) x.named (share x)
      → w.full ≡ 20 * D (kept (flags number_of_seats x.named) (exposures_for b t))
      → RouteWeighed route b x t w
  weighed route w h e full =
      let taken = taken_route b x t route h in
      let is = e ∙ answers route taken in
      record {
        by_route = ap pos is ∙ sym (adds_up route taken);
        by_patterns = is;
        full = full ∙ full_is b columns x t;
        on_the_way = stays_near route;
        by_number = taken_number x route taken;
      }

  pub symmetric_is : (j : ℕ) → S (kept (flags number_of_seats x.named) (exposures_for b t)) j ≡ symmetric_sum (exposures_for b t) x.named j
  symmetric_is j = sym (symmetric-kept all N j ∙ ap (λ (n : ℕ). S (kept (flags n N) all) j) long)

  pub symmetric-none : (j : ℕ) → size (flags number_of_seats x.named) < j → symmetric_sum (exposures_for b t) x.named j ≡ 0
  symmetric-none j h = symmetric_past all N j (subst (λ (n : ℕ). size (flags n N) < j) (sym long) h)

-- ---- a difference
pub difference_is : (b : Book) (x : Benefit) (j : ℕ) (z : ℤ) → ◌≡◌ {A = Answer} (Ok tt) (cond (vacancy b x) (Err Vacant) (Ok tt)) → Ok tt ≡ judge_number x
    → z ≡ cond (ltb (size (flags number_of_seats x.named)) j) (pos 0) (Δ j (share_with number_of_seats (share x) x.named) 0)
    → Ok z ≡ differenced b x j
difference_is b x j z h k e = go (vacancy b x) (uneven number_of_seats (share x) x.named) _ h k e
  where
    go : (v u : Bool) (d : ℤ) → ◌≡◌ {A = Answer} (Ok tt) (cond v (Err Vacant) (Ok tt)) → ◌≡◌ {A = Answer} (Ok tt) (cond u (Err Uneven) (Ok tt)) → z ≡ d
        → ◌≡◌ {A = Result ℤ Refusal} (Ok z) (cond v (Err Vacant) (cond u (Err Uneven) (Ok d)))
    go true u d h k e = absurd (wrong h)
    go false true d h k e = absurd (wrong k)
    go false false d h k e = ap Ok e

module _ (x : Benefit) (j : ℕ) where
  number_is : ones x.named ≡ size (flags number_of_seats x.named)
  number_is = ones_size number_of_seats x.named x.seats

  pub difference_past : ones x.named < j → pos 0 ≡ cond (ltb (size (flags number_of_seats x.named)) j) (pos 0) (Δ j (share_with number_of_seats (share x) x.named) 0)
  difference_past h = sym (cond-true _ _ _ (lt-ltb (size (flags number_of_seats x.named)) j (omega (arith, number_is))))

  pub difference-here : (z : ℤ) (c : ℕ → ℕ) → j ≤ ones x.named → ((k : ℕ) → c k ≡ share_with number_of_seats (share x) x.named k)
      → z ≡ cond (ltb number_of_seats j) (pos 0) (Δ j c 0)
      → z ≡ cond (ltb (size (flags number_of_seats x.named)) j) (pos 0) (Δ j (share_with number_of_seats (share x) x.named) 0)
  difference-here z c h e is =
      is
      ∙ cond-false _ _ _ (le-ltb number_of_seats j (omega (arith, number_is, size_le (flags number_of_seats x.named), length-flags number_of_seats x.named)))
      ∙ ap (λ (f : ℕ → ℕ). Δ j f 0) (fun_ext e)
      ∙ sym (cond-false _ _ _ (le-ltb (size (flags number_of_seats x.named)) j (omega (arith, number_is))))
