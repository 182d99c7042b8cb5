-- What keeps the seats sound.
use Rattle.std.proofs.Common.{◌≡◌, ℕ, zero, suc, ◌+◌, ◌*◌, ◌<◌, ◌≤◌, true, false, cond, eqb, List, [], ◌∷◌, length, get_or, set, replicate, sym, refl, ap, ◌∙◌, subst, ⊎_elim, le_trans, arith}
use Rattle.std.proofs.lemmas.List.{length-set, get_or_past}
use Rattle.std.proofs.lemmas.Bool.{cases_lt, eqb-false, false≢true}
use Rattle.lives.proofs.Columns.{zeros_at}
use Rattle.seats.specs.declared.seat.Mark.{Mark}
use Rattle.seats.specs.declared.seat.Mark.TheVariants.{Empty, Living, Failed}
use Rattle.seats.specs.declared.seat.Seat.{Seat}
use Rattle.seats.proofs.Products.{product_set_le, product_fill, product_mono}
use Rattle.seats.proofs.Anys.{any_false, any_true}
use Rattle.seats.specs.Seats.{is_living, lives, ending, any_of}
use Rattle.patterns.specs.Seats.{seats}
use Rattle.seats.specs.Seats.{Seated, greatest, vacant, vacancies, living, failed, alive, present, seat_at, count_at, seat_of, product, occupied, first, Columns, Within}

-- what holds of the record that is written and of every other holds of each after
pub each_after : (P : Seat → Type 0) (xs : List Seat) (i : ℕ) (y : Seat) → P y → ((k : ℕ) → P (seat_at xs k)) → (k : ℕ) → P (seat_at (set xs i y) k)
each_after P [] i y new old k = old k
each_after P (x ∷ xs) zero y new old zero = new
each_after P (x ∷ xs) zero y new old (suc k) = old (suc k)
each_after P (x ∷ xs) (suc i) y new old zero = old zero
each_after P (x ∷ xs) (suc i) y new old (suc k) = each_after P xs i y new (λ j. old (suc j)) k

columns_long : (xs : List Seat) (i : ℕ) (y : Seat) (n : ℕ) → length y.counts ≡ 121 → ((k : ℕ) → k < n → length (seat_at xs k).counts ≡ 121) → (k : ℕ) → k < n → length (seat_at (set xs i y) k).counts ≡ 121
columns_long [] i y n new old k h = old k h
columns_long (x ∷ xs) zero y n new old zero h = new
columns_long (x ∷ xs) zero y n new old (suc k) h = old (suc k) h
columns_long (x ∷ xs) (suc i) y n new old zero h = old zero h
columns_long (x ∷ xs) (suc i) y zero new old (suc k) h = omega arith
columns_long (x ∷ xs) (suc i) y (suc n) new old (suc k) h = columns_long xs i y n new (λ j g. old (suc j) (omega arith)) k (omega arith)

Falls : Seat → Type 0
Falls s = (t : ℕ) → get_or s.counts (t + 1) 0 ≤ get_or s.counts t 0

pub columns_set : (xs : List Seat) (i : ℕ) (y : Seat) → length y.counts ≡ 121 → ((t : ℕ) → get_or y.counts (t + 1) 0 ≤ get_or y.counts t 0) → Columns xs → Columns (set xs i y)
unfolding Falls
columns_set xs i y long falls c = (length-set xs i y ∙ c.0, columns_long xs i y seats long c.1, each_after Falls xs i y falls c.2)

zeros_fall : (t : ℕ) → get_or {A = ℕ} (replicate 121 0) (t + 1) 0 ≤ get_or {A = ℕ} (replicate 121 0) t 0
zeros_fall t = omega (arith, zeros_at 121 (t + 1))

-- each of n equal records is that record
pub each_same : (P : Seat → Type 0) (n : ℕ) (y : Seat) → P y → P (seat_of [] Empty) → (k : ℕ) → P (seat_at (replicate n y) k)
each_same P zero y new none k = none
each_same P (suc n) y new none zero = new
each_same P (suc n) y new none (suc k) = each_same P n y new none k

same_long : (n m : ℕ) (y : Seat) → length y.counts ≡ m → (k : ℕ) → k < n → length (seat_at (replicate n y) k).counts ≡ m
same_long zero m y e k h = omega arith
same_long (suc n) m y e zero h = e
same_long (suc n) m y e (suc k) h = same_long n m y e k (omega arith)

opened_columns : Columns (vacancies)
unfolding Falls
opened_columns = (refl, same_long seats 121 vacant refl, each_same Falls seats vacant zeros_fall (λ t. omega arith))

opened-within : Within first (vacancies)
opened-within = (each_same (λ s. 1 ≤ first s) seats vacant (omega arith) (omega arith), omega arith)

pub opened_sound : (xs : List Seat) → xs ≡ vacancies → Columns xs × Within first xs
opened_sound xs e = (subst Columns (sym e) opened_columns, subst (Within first) (sym e) opened-within)

-- a seat that is withdrawn leaves the others as they were
pub withdrawn_columns : (xs : List Seat) (i : ℕ) → Columns xs → Columns (set xs i vacant)
withdrawn_columns xs i c = columns_set xs i vacant refl zeros_fall c

pub withdrawn-within : (xs : List Seat) (i : ℕ) → Within first xs → Within first (set xs i vacant)
withdrawn-within xs i w = (
  each_after (λ s. 1 ≤ first s) xs i vacant (omega arith) w.0,
  le_trans (product_set_le first xs i vacant (w.0 i)) w.1,
)

-- an empty seat is filled
pub enrolled-within : (xs : List Seat) (i : ℕ) (counts : List ℕ) → 1 ≤ get_or counts 0 0 → product first (set xs i (living counts)) ≤ greatest → Within first xs → Within first (set xs i (living counts))
enrolled-within xs i counts some few w = (each_after (λ s. 1 ≤ first s) xs i (living counts) some w.0, few)

-- the product with a life in an empty seat, as it is worked
pub worked : (xs : List Seat) (i : ℕ) (counts : List ℕ) (a p : ℕ) → Columns xs → Seated i → (seat_at xs i).mark ≡ Empty → a ≡ get_or counts 0 0 → p ≡ product first xs → product first (set xs i (living counts)) ≡ a * p
worked xs i counts a p c inside empty is-a is-p =
    product_fill first xs i (living counts) (omega (arith, c.0)) (ap (λ m. occupied m (get_or (seat_at xs i).counts 0 0)) empty)
    ∙ ap (λ n. n * product first xs) (sym is-a) ∙ ap (λ n. a * n) (sym is-p)

alive_pos : (m : Mark) (n : ℕ) → 1 ≤ occupied m n → 1 ≤ alive m n
alive_pos Empty n h = omega arith
alive_pos Living n h = h
alive_pos Failed n h = omega arith

alive_le : (m : Mark) (n : ℕ) → 1 ≤ occupied m n → alive m n ≤ occupied m n
alive_le Empty n h = omega arith
alive_le Living n h = omega arith
alive_le Failed n h = h

alive-falls : (m : Mark) (n k : ℕ) → k ≤ n → alive m k ≤ alive m n
alive-falls Empty n k h = omega arith
alive-falls Living n k h = h
alive-falls Failed n k h = omega arith

alive_still : (m : Mark) (n : ℕ) → cond (is_living m) (eqb n 0) false ≡ false → 1 ≤ alive m n
alive_still Empty n e = omega arith
alive_still Living n e = let h : n ≡ 0 → ⊥ = eqb-false n 0 e in omega arith
alive_still Failed n e = omega arith

living_still : (m : Mark) (n : ℕ) → is_living m ≡ true → cond (is_living m) (eqb n 0) false ≡ false → 1 ≤ n
living_still Empty n l e = absurd (false≢true l)
living_still Living n l e = let h : n ≡ 0 → ⊥ = eqb-false n 0 e in omega arith
living_still Failed n l e = absurd (false≢true l)

pub started-within : (xs : List Seat) → Within first xs → Within (present 0) xs
started-within xs w = (
  (λ i. alive_pos (seat_at xs i).mark (count_at xs i 0) (w.0 i)),
  le_trans (product_mono (present 0) first xs (λ i. alive_le (seat_at xs i).mark (count_at xs i 0) (w.0 i))) w.1,
)

pub failed_columns : (xs : List Seat) (i : ℕ) → Seated i → Columns xs → Columns (set xs i (failed (seat_at xs i).counts))
failed_columns xs i inside c = columns_set xs i (failed (seat_at xs i).counts) (c.1 i (omega arith)) (c.2 i) c

pub failed-within : (years : ℕ) (xs : List Seat) (i : ℕ) → Within (present years) xs → Within (present years) (set xs i (failed (seat_at xs i).counts))
failed-within years xs i w = (
  each_after (λ s. 1 ≤ present years s) xs i (failed (seat_at xs i).counts) (omega arith) w.0,
  le_trans (product_set_le (present years) xs i (failed (seat_at xs i).counts) (w.0 i)) w.1,
)

pub aged-within : (years : ℕ) (xs : List Seat) → Columns xs → any_of (ending (years + 1)) xs ≡ false → Within (present years) xs → Within (present (years + 1)) xs
aged-within years xs c e w = (
  (λ i. alive_still (seat_at xs i).mark (count_at xs i (years + 1)) (any_false (ending (years + 1)) xs e refl i)),
  le_trans (product_mono (present (years + 1)) (present years) xs (λ i. alive-falls (seat_at xs i).mark (count_at xs i years) (count_at xs i (years + 1)) (c.2 i years))) w.1,
)

pub aged_young : (years : ℕ) (xs : List Seat) → Columns xs → any_of lives xs ≡ true → any_of (ending (years + 1)) xs ≡ false → years + 1 ≤ 120
aged_young years xs c some e =
    let found = any_true lives xs some in
    let i = found.0 in
    let still = living_still (seat_at xs i).mark (count_at xs i (years + 1)) found.1.1 (any_false (ending (years + 1)) xs e refl i) in
    let long = c.1 i (omega (arith, c.0, found.1.0)) in
    ⊎_elim (λ (h : years + 1 < 121). omega arith)
    (λ (h : 121 ≤ years + 1). omega (arith, still, get_or_past (seat_at xs i).counts (years + 1) 0 (omega (arith, long))))
    (cases_lt (years + 1) 121)
