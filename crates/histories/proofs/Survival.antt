-- The weight by who survives this year, in the book of a case: the theorem on weights, carried over seat by seat.
use Rattle.std.proofs.Common.{◌≡◌, ℕ, suc, ◌+◌, ◌-◌, ◌*◌, ◌/◌, ◌%◌, ◌^◌, ◌<◌, ◌≤◌, Bool, true, false, cond, ◌&&◌, ◌||◌, eqb, leb, List, [], ◌∷◌, map, length, get_or, sym, refl, ap, ◌∙◌, ap₂, le_trans, le_of_eq, one-mul, div-one, arith}
use Rattle.std.proofs.lemmas.List.{length-map}
use Rattle.std.proofs.lemmas.Bool.{false≢true}
use Rattle.patterns.specs.Anys.{is_member}
use Rattle.patterns.specs.Patterns.{Pattern, flags, below}
use Rattle.patterns.specs.Seats.{patterns}
use Rattle.patterns.specs.Seats.{seats as number_of_seats}
use Rattle.patterns.proofs.Loops.{below-same}
use Rattle.patterns.proofs.Masks.{length-flags}
use Rattle.weights.specs.declared.exposure.Exposure.{Exposure}
use Rattle.weights.specs.Weights.{weight}
use Rattle.weights.proofs.Named.{halved}
use Rattle.weights.proofs.Years
use Rattle.weights.proofs.Years.{Seen, Orderly, Names, seen, after, can, deaths}
use Rattle.weights.proofs.Survivors.{by_survivors}
use Rattle.seats.specs.declared.seat.Mark.{Mark}
use Rattle.seats.specs.declared.seat.Mark.TheVariants.{Empty, Living, Failed}
use Rattle.seats.specs.declared.seat.Seat.{Seat}
use Rattle.seats.specs.Seats.{seat_of, seat_at, count_at, is_living, lives, any_of, Columns}
use Rattle.benefits.specs.declared.benefit.Benefit.{Benefit}
use Rattle.benefits.specs.Shares.{share}
use Rattle.cases.specs.Book.{Book}
use Rattle.cases.specs.Weighing.{exposure_by, exposure_for, exposures_for, weight_of}
use Rattle.cases.proofs.Weighings.{falls}
use Rattle.histories.proofs.Years.{fallen, moved, year_on_is}
use Rattle.histories.specs.Survival.{survives, deaths_in, survivors, deaths_of, year_on, NamesLiving, survivors_term, Survivors}

-- ---- the seats as the theorem on weights sees them, for year t after s elapsed years
abbrev viewed : Bool → ℕ → ℕ → ℕ → Seen
viewed l a r₁ r = cond l (Years.living a r₁ r) Years.failed

abbrev view : ℕ → ℕ → Seat → Seen
view s t x = viewed (lives x) (get_or x.counts (s + t) 0) (get_or x.counts (s + 1) 0) (get_or x.counts s 0)

seen_one : (m : Mark) (a r₁ r : ℕ) (vs : List Seen) → seen (viewed (is_living m) a r₁ r ∷ vs) ≡ exposure_by m a r ∷ seen vs
unfolding seen
seen_one Empty a r₁ r vs = refl
seen_one Living a r₁ r vs = refl
seen_one Failed a r₁ r vs = refl

orderly_one : (l : Bool) (a r₁ r : ℕ) (vs : List Seen) → a ≤ r₁ → r₁ ≤ r → Orderly vs → Orderly (viewed l a r₁ r ∷ vs)
orderly_one true a r₁ r vs h k o = (h, k, o)
orderly_one false a r₁ r vs h k o = o

names_one : (l n : Bool) (a r₁ r : ℕ) (N : Pattern) (vs : List Seen) → (l ≡ true → n ≡ true) → Names N vs → Names (n ∷ N) (viewed l a r₁ r ∷ vs)
names_one l true a r₁ r N vs h k = k
names_one true false a r₁ r N vs h k = absurd (false≢true (h refl))
names_one false false a r₁ r N vs h k = k

can-one : (l : Bool) (a r₁ r : ℕ) (vs : List Seen) (J : Pattern) → can (viewed l a r₁ r ∷ vs) (true ∷ J) ≡ (l && leb 1 r₁) && can vs J
unfolding can
can-one true a r₁ r vs J = refl
can-one false a r₁ r vs J = refl

cannot_one : (l : Bool) (a r₁ r : ℕ) (vs : List Seen) (J : Pattern) → can (viewed l a r₁ r ∷ vs) (false ∷ J) ≡ can vs J
unfolding can
cannot_one true a r₁ r vs J = refl
cannot_one false a r₁ r vs J = refl

survivor_deaths : (l : Bool) (a r₁ r : ℕ) (vs : List Seen) (J : Pattern) → deaths (viewed l a r₁ r ∷ vs) (true ∷ J) ≡ deaths vs J
unfolding deaths
survivor_deaths true a r₁ r vs J = refl
survivor_deaths false a r₁ r vs J = refl

other_deaths : (l : Bool) (a r₁ r : ℕ) (vs : List Seen) (J : Pattern) → deaths (viewed l a r₁ r ∷ vs) (false ∷ J) ≡ cond l (r - r₁) 1 * deaths vs J
unfolding deaths
other_deaths true a r₁ r vs J = refl
other_deaths false a r₁ r vs J = sym (one-mul (deaths vs J))

-- one year nearer
nearer : (xs : List ℕ) (s t : ℕ) → 1 ≤ t → get_or xs ((s + 1) + (t - 1)) 0 ≡ get_or xs (s + t) 0
nearer xs s t h = let e : (s + 1) + (t - 1) ≡ s + t = omega arith in ap (λ (n : ℕ). get_or xs n 0) e

module _ (s t : ℕ) where
  seen_all : (xs : List Seat) → seen (map (view s t) xs) ≡ map (exposure_for s t) xs
  unfolding seen
  seen_all [] = refl
  seen_all (x ∷ xs) = seen_one x.mark _ _ _ _ ∙ ap (λ (ls : List Exposure). exposure_for s t x ∷ ls) (seen_all xs)

  orderly_all : (xs : List Seat) → 1 ≤ t → ((i u : ℕ) → count_at xs i (u + 1) ≤ count_at xs i u) → Orderly (map (view s t) xs)
  orderly_all [] soon h = tt
  orderly_all (x ∷ xs) soon h =
      orderly_one (lives x) _ _ _ _
      (le_trans (le_of_eq (sym (nearer x.counts s t soon))) (falls x.counts (s + 1) (t - 1) (h 0))) (h 0 s)
      (orderly_all xs soon (λ i. h (suc i)))

  names_all : (xs : List Seat) (N : ℕ) → ((i : ℕ) → i < length xs → lives (seat_at xs i) ≡ true → is_member N i ≡ true) → Names (flags (length (map (view s t) xs)) N) (map (view s t) xs)
  unfolding flags
  names_all [] N h = tt
  names_all (x ∷ xs) N h =
      names_one (lives x) (eqb (N % 2) 1) _ _ _ _ _
      (λ l. ap (λ (k : ℕ). eqb (k % 2) 1) (sym (div-one N)) ∙ h 0 (omega arith) l)
      (names_all xs (N / 2) (λ i k l. ap (λ (n : ℕ). eqb (n % 2) 1) (halved N i) ∙ h (suc i) (omega arith) l))

  can-all : (xs : List Seat) (J : Pattern) → length J ≡ length xs → can (map (view s t) xs) J ≡ survivors s xs J
  unfolding can survivors
  can-all [] J e = refl
  can-all (x ∷ xs) [] e = absurd (omega arith)
  can-all (x ∷ xs) (true ∷ J) e = can-one (lives x) _ _ _ _ J ∙ ap (λ (u : Bool). survives s x && u) (can-all xs J (omega arith))
  can-all (x ∷ xs) (false ∷ J) e = cannot_one (lives x) _ _ _ _ J ∙ can-all xs J (omega arith)

  deaths-all : (xs : List Seat) (J : Pattern) → length J ≡ length xs → deaths (map (view s t) xs) J ≡ deaths_of s xs J
  unfolding deaths deaths_of
  deaths-all [] J e = refl
  deaths-all (x ∷ xs) [] e = refl
  deaths-all (x ∷ xs) (true ∷ J) e = survivor_deaths (lives x) _ _ _ _ J ∙ deaths-all xs J (omega arith)
  deaths-all (x ∷ xs) (false ∷ J) e = other_deaths (lives x) _ _ _ _ J ∙ ap (λ (n : ℕ). cond (lives x) (deaths_in s x) 1 * n) (deaths-all xs J (omega arith))

-- ---- the exposures one year on; where nobody lives, the year does not count, and nobody sees it
module _ (s t : ℕ) (soon : 1 ≤ t) where
  abbrev on : Bool → Seat → Exposure
  on any x = exposure_for (cond any (s + 1) s) (t - 1) x

  survivor_after : (m : Mark) (xs : List ℕ) (any : Bool) (vs : List Seen) (J : Pattern) → (is_living m ≡ true → any ≡ true)
      → after (view s t (seat_of xs m) ∷ vs) (true ∷ J) ≡ on any (seat_of xs m) ∷ after vs J
  unfolding after
  survivor_after Empty xs any vs J h = refl
  survivor_after Living xs true vs J h = ap (λ (a : ℕ). record { count = a; present = get_or xs (s + 1) 0 } ∷ after vs J) (sym (nearer xs s t soon))
  survivor_after Living xs false vs J h = absurd (false≢true (h refl))
  survivor_after Failed xs any vs J h = refl

  other_after : (m : Mark) (xs : List ℕ) (any : Bool) (vs : List Seen) (J : Pattern)
      → after (view s t (seat_of xs m) ∷ vs) (false ∷ J) ≡ on any (fallen (seat_of xs m)) ∷ after vs J
  unfolding after
  other_after Empty xs any vs J = refl
  other_after Living xs any vs J = refl
  other_after Failed xs any vs J = refl

  first-lives : (u v any : Bool) → (u || v ≡ true → any ≡ true) → u ≡ true → any ≡ true
  first-lives true v any h e = h refl
  first-lives false v any h e = absurd (false≢true e)

  rest-lives : (u v any : Bool) → (u || v ≡ true → any ≡ true) → v ≡ true → any ≡ true
  rest-lives true v any h e = h refl
  rest-lives false v any h e = h e

  after-all : (xs : List Seat) (J : Pattern) (any : Bool) → length J ≡ length xs → (any_of lives (moved xs J) ≡ true → any ≡ true)
      → after (map (view s t) xs) J ≡ map (on any) (moved xs J)
  unfolding after moved
  after-all [] J any e h = refl
  after-all (x ∷ xs) [] any e h = absurd (omega arith)
  after-all (x ∷ xs) (true ∷ J) any e h =
      survivor_after x.mark x.counts any _ J (first-lives (lives x) (any_of lives (moved xs J)) any h)
      ∙ ap (λ (ls : List Exposure). on any x ∷ ls) (after-all xs J any (omega arith) (rest-lives (lives x) (any_of lives (moved xs J)) any h))
  after-all (x ∷ xs) (false ∷ J) any e h =
      other_after x.mark x.counts any _ J
      ∙ ap (λ (ls : List Exposure). on any (fallen x) ∷ ls) (after-all xs J any (omega arith) (rest-lives (lives (fallen x)) (any_of lives (moved xs J)) any h))

-- ---- the theorem
only_when : (c c' : Bool) (p q : ℕ) → c ≡ c' → (c' ≡ true → p ≡ q) → cond c p 0 ≡ cond c' q 0
only_when c true p q e h = ap (λ (u : Bool). cond u p 0) e ∙ h refl
only_when c false p q e h = ap (λ (u : Bool). cond u p 0) e

module _ (b : Book) (x : Benefit) (t : ℕ) (columns : Columns b.seats) where
  abbrev views : List Seen
  views = map (view b.elapsed t) b.seats

  views_long : length views ≡ number_of_seats
  views_long = length-map b.seats (view b.elapsed t) ∙ columns.0

  after_is : 1 ≤ t → (J : Pattern) → length J ≡ length b.seats → survivors b.elapsed b.seats J ≡ true → after views J ≡ exposures_for (year_on b J) (t - 1)
  after_is soon J e h =
      after-all b.elapsed t soon b.seats J (any_of lives (moved b.seats J)) e (λ k. k)
      ∙ sym (ap (λ (c : Book). exposures_for c (t - 1)) (year_on_is b J columns.0 e h))

  -- what the set J adds, of the views
  abbrev adds : Pattern → ℕ
  adds J = cond (can views J) (deaths views J * weight (after views J) x.named (share x)) 0

  adds_is : 1 ≤ t → (J : Pattern) → length J ≡ length b.seats → adds J ≡ survivors_term b x t J
  unfolding weight_of
  adds_is soon J e =
      only_when (can views J) (survivors b.elapsed b.seats J) _ _ (can-all b.elapsed t b.seats J e)
      (λ h. ap₂ (λ (d : ℕ) (ls : List Exposure). d * weight ls x.named (share x)) (deaths-all b.elapsed t b.seats J e) (after_is soon J e h))

  pub survival : NamesLiving b x → 1 ≤ t → Survivors b x t
  unfolding weight_of
  survival names soon =
      ap (λ (ls : List Exposure). weight ls x.named (share x)) (sym (seen_all b.elapsed t b.seats))
      ∙ by_survivors views x.named (share x) (orderly_all b.elapsed t b.seats soon columns.2)
      (names_all b.elapsed t b.seats x.named (λ i k. names i (omega (arith, columns.0))))
      ∙ ap (λ (n : ℕ). below ◌+◌ 0 (2 ^ n) (λ p. adds (flags n p))) views_long
      ∙ below-same ◌+◌ 0 patterns _ _ (λ p. adds_is soon (flags number_of_seats p) (length-flags number_of_seats p ∙ sym columns.0))
