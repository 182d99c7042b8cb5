-- The exposures that a weight takes from sound seats, and the weight that they give.
use Rattle.std.proofs.Common.{◌≡◌, ℕ, zero, suc, ◌+◌, ◌-◌, ◌*◌, ◌^◌, ◌<◌, ◌≤◌, Bool, true, false, cond, List, [], ◌∷◌, map, length, get_or, sym, refl, ap, ◌∙◌, subst, ap₂, ⊎_elim, le_trans, le_of_eq, add-zero, add-suc, mul-le-mul, mul-le-mul_left, add-one, arith, ext_get_or}
use Rattle.std.proofs.lemmas.List.{get_or_past, get_or-map, length-map}
use Rattle.std.proofs.lemmas.Bool.{cases_lt}
use Rattle.patterns.specs.Seats.{seats as number_of_seats}
use Rattle.patterns.specs.Patterns.{Pattern, flags, number}
use Rattle.patterns.specs.Anys.{is_member}
use Rattle.weights.specs.declared.exposure.Exposure.{Exposure}
use Rattle.weights.specs.Exposures.{standing, lost, Sound, Present, D, none_counted}
use Rattle.weights.proofs.Counting.{none_count}
use Rattle.weights.specs.Exposures.{seat_at as exposure_at}
use Rattle.weights.specs.Patterns.{by_patterns, kept}
use Rattle.weights.specs.Weights.{product_named}
use Rattle.weights.proofs.Named.{length-kept, kept-all, kept_at, D-kept, weight-kept}
use Rattle.seats.specs.declared.seat.Mark.{Mark}
use Rattle.seats.specs.declared.seat.Mark.TheVariants.{Empty, Living, Failed}
use Rattle.seats.specs.declared.seat.Seat.{Seat}
use Rattle.seats.specs.Seats.{seat_at, alive, present, product, Columns, Within}
use Rattle.seats.proofs.Products.{product_pos}
use Rattle.benefits.specs.declared.benefit.Benefit.{Benefit}
use Rattle.benefits.specs.Shares.{share}
use Rattle.cases.specs.Book.{Book}
use Rattle.cases.specs.Weighing.{exposure_by, exposure_for, exposures_for, weight_of, full_of}
use Rattle.cases.specs.Routing.{present_of}

-- ---- counts never rise
pub falls : (xs : List ℕ) (s t : ℕ) → ((u : ℕ) → get_or xs (u + 1) 0 ≤ get_or xs u 0) → get_or xs (s + t) 0 ≤ get_or xs s 0
falls xs s zero h = le_of_eq (ap (λ (n : ℕ). get_or xs n 0) (add-zero s))
falls xs s (suc t) h =
    le_trans (le_of_eq (ap (λ (n : ℕ). get_or xs n 0) (add-suc s t ∙ sym (add-one (s + t))))) (le_trans (h (s + t)) (falls xs s t h))

sound_one : (m : Mark) (a r : ℕ) → a ≤ r → (exposure_by m a r).count ≤ (exposure_by m a r).present
sound_one Empty a r h = omega arith
sound_one Living a r h = h
sound_one Failed a r h = omega arith

present-one : (m : Mark) (a r : ℕ) → (exposure_by m a r).present ≡ alive m r
present-one Empty a r = refl
present-one Living a r = refl
present-one Failed a r = refl

-- ---- the exposures of the named seats, the others standing as failed
module _ (b : Book) (columns : Columns b.seats) (within : Within (present b.elapsed) b.seats) (t N : ℕ) where
  abbrev all : List Exposure
  all = exposures_for b t

  pub all_long : length (exposures_for b t) ≡ number_of_seats
  all_long = length-map b.seats (exposure_for b.elapsed t) ∙ columns.0

  abbrev held : List Exposure
  held = kept (flags number_of_seats N) all

  pub held_long : length (kept (flags number_of_seats N) (exposures_for b t)) ≡ number_of_seats
  held_long = length-kept (flags number_of_seats N) all ∙ all_long

  at_seat : (i : ℕ) → i < length b.seats → exposure_at all i ≡ exposure_for b.elapsed t (seat_at b.seats i)
  at_seat i h = get_or-map (exposure_for b.elapsed t) b.seats i _ _ h

  inner : (i : ℕ) → i < length all → i < length b.seats
  inner i h = omega (arith, length-map b.seats (exposure_for b.elapsed t))

  each : (Q : Exposure → Type 0) → Q lost → ((i : ℕ) → Q (exposure_for b.elapsed t (seat_at b.seats i))) → (i : ℕ) → i < length all → Q (exposure_at held i)
  each Q q h i k = kept-all Q q (flags number_of_seats N) all (λ j m. subst Q (sym (at_seat j (inner j m))) (h j)) i k

  pub held_sound : Sound (kept (flags number_of_seats N) (exposures_for b t))
  held_sound i =
      ⊎_elim (λ (h : i < length all).
      each (λ (x : Exposure). x.count ≤ x.present) (omega arith)
      (λ j. sound_one (seat_at b.seats j).mark (get_or (seat_at b.seats j).counts (b.elapsed + t) 0) (get_or (seat_at b.seats j).counts b.elapsed 0) (falls (seat_at b.seats j).counts b.elapsed t (columns.2 j))) i h)
      (λ (h : length all ≤ i). subst (λ (x : Exposure). x.count ≤ x.present) (sym (get_or_past held i _ (omega (arith, held_long, all_long)))) (omega arith))
      (cases_lt i (length all))

  pub held-present : Present (kept (flags number_of_seats N) (exposures_for b t))
  held-present i h =
      each (λ (x : Exposure). 1 ≤ x.present) (omega arith)
      (λ j. subst (λ (n : ℕ). 1 ≤ n) (sym (present-one (seat_at b.seats j).mark (get_or (seat_at b.seats j).counts (b.elapsed + t) 0) (get_or (seat_at b.seats j).counts b.elapsed 0))) (within.0 j)) i
      (omega (arith, held_long, all_long))

  pub held_at : (i : ℕ) → i < number_of_seats → exposure_at (kept (flags number_of_seats N) (exposures_for b t)) i ≡ cond (is_member N i) (exposure_for b.elapsed t (seat_at b.seats i)) lost
  held_at i q =
      let m : i < length all = omega (arith, all_long) in
      ap (λ (n : ℕ). exposure_at (kept (flags n N) all) i) (sym all_long) ∙ kept_at all N i _ m ∙ ap (λ (x : Exposure). cond (is_member N i) x lost) (at_seat i (inner i m))

  -- the loop over the seats finds them
  pub held_found : (found : List Exposure) → length found ≡ number_of_seats
      → ((i : ℕ) → i < number_of_seats → exposure_at found i ≡ cond (is_member N i) (exposure_for b.elapsed t (seat_at b.seats i)) lost)
      → found ≡ kept (flags number_of_seats N) (exposures_for b t)
  held_found found e h = ext_get_or _ found held (e ∙ sym held_long) (λ i k. let q : i < number_of_seats = omega arith in h i q ∙ sym (held_at i q))

-- ---- the products of the present counts
named_is : (s t : ℕ) (N : Pattern) (xs : List Seat) → product_named N standing (map (exposure_for s t) xs) ≡ product_named N (present s) xs
named_is s t N [] = refl
named_is s t [] (x ∷ xs) = refl
named_is s t (true ∷ N) (x ∷ xs) = ap₂ ◌*◌ (present-one x.mark (get_or x.counts (s + t) 0) (get_or x.counts s 0)) (named_is s t N xs)
named_is s t (false ∷ N) (x ∷ xs) = named_is s t N xs

named_le : (f : Seat → ℕ) (N : Pattern) (xs : List Seat) → ((i : ℕ) → 1 ≤ f (seat_at xs i)) → product_named N f xs ≤ product f xs
named_le f N [] h = omega arith
named_le f [] (x ∷ xs) h = product_pos f (x ∷ xs) h
named_le f (true ∷ N) (x ∷ xs) h = mul-le-mul_left (f x) (named_le f N xs (λ i. h (suc i)))
named_le f (false ∷ N) (x ∷ xs) h = le_trans (named_le f N xs (λ i. h (suc i))) (omega (arith, mul-le-mul {n₁ = 1} {m₁ = product f xs} (h 0) (le_of_eq refl)))

pub held_small : (b : Book) → Within (present b.elapsed) b.seats → (t N : ℕ) → D (kept (flags number_of_seats N) (exposures_for b t)) ≤ 10 ^ 16
held_small b w t N =
    le_trans (le_of_eq (D-kept (flags number_of_seats N) (exposures_for b t) ∙ named_is b.elapsed t (flags number_of_seats N) b.seats))
    (le_trans (named_le (present b.elapsed) (flags number_of_seats N) b.seats w.0) w.1)

-- ---- what the route answers is the book's weight
module _ (b : Book) (columns : Columns b.seats) (x : Benefit) (t : ℕ) where
  long : length (exposures_for b t) ≡ number_of_seats
  long = length-map b.seats (exposure_for b.elapsed t) ∙ columns.0

  pub weight_is : by_patterns (kept (flags number_of_seats x.named) (exposures_for b t)) (λ P. share x (number P)) ≡ weight_of b x t
  unfolding weight_of
  weight_is =
      ap (λ (m : ℕ). by_patterns (kept (flags m x.named) (exposures_for b t)) (λ P. share x (number P))) (sym long)
      ∙ weight-kept (exposures_for b t) x.named (share x)

  pub present_is : D (kept (flags number_of_seats x.named) (exposures_for b t)) ≡ present_of b x
  present_is = D-kept (flags number_of_seats x.named) (exposures_for b t) ∙ named_is b.elapsed t (flags number_of_seats x.named) b.seats

  pub full_is : 20 * D (kept (flags number_of_seats x.named) (exposures_for b t)) ≡ full_of b x
  unfolding full_of
  full_is = ap (λ (d : ℕ). 20 * d) present_is

-- ---- once no named seat is counted, nothing changes
-- a count that is 0 stays 0
stays : (m : Mark) (a a' r : ℕ) → a' ≤ a → (exposure_by m a r).count ≡ 0 → exposure_by m a' r ≡ exposure_by m a r
stays Empty a a' r h e = refl
stays Living a a' r h e = ap (λ (n : ℕ). exposure_by Living n r) (omega arith)
stays Failed a a' r h e = refl

member_stays : (m : Bool) (mark : Mark) (a a' r : ℕ) → a' ≤ a → (cond m (exposure_by mark a r) lost).count ≡ 0 → cond m (exposure_by mark a' r) lost ≡ cond m (exposure_by mark a r) lost
member_stays true mark a a' r h e = stays mark a a' r h e
member_stays false mark a a' r h e = refl

module _ (b : Book) (columns : Columns b.seats) (within : Within (present b.elapsed) b.seats) (x : Benefit) where
  pub settled : (t u : ℕ) → t ≤ u → none_counted (kept (flags number_of_seats x.named) (exposures_for b t)) ≡ true → weight_of b x u ≡ weight_of b x t
  settled t u h over =
      let s = b.elapsed in
      let N = x.named in
      let same = ext_get_or _ (kept (flags number_of_seats N) (exposures_for b u)) (kept (flags number_of_seats N) (exposures_for b t))
      (held_long b columns within u N ∙ sym (held_long b columns within t N))
      (λ i k.
      let q : i < number_of_seats = omega (arith, held_long b columns within u N) in
      let seat = seat_at b.seats i in
      let gone = sym (ap (λ (e : Exposure). e.count) (held_at b columns within t N i q)) ∙ none_count (kept (flags number_of_seats N) (exposures_for b t)) over i in
      let later : get_or seat.counts (s + u) 0 ≤ get_or seat.counts (s + t) 0 = subst (λ (n : ℕ). get_or seat.counts n 0 ≤ get_or seat.counts (s + t) 0) (omega arith) (falls seat.counts (s + t) (u - t) (columns.2 i)) in
      held_at b columns within u N i q
      ∙ member_stays (is_member N i) seat.mark (get_or seat.counts (s + t) 0) (get_or seat.counts (s + u) 0) (get_or seat.counts s 0) later gone
      ∙ sym (held_at b columns within t N i q)) in
      sym (weight_is b columns x u) ∙ ap (λ (xs : List Exposure). by_patterns xs (λ P. share x (number P))) same ∙ weight_is b columns x t
