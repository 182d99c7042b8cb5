-- The seats as supposed are as sound as the seats.
use Rattle.std.proofs.Common.{◌≡◌, ℕ, ◌+◌, ◌<◌, ◌≤◌, Bool, false, cond, List, length, get_or, set, Some, None, Option, IsNone, sym, refl, ap, ◌∙◌, subst, ap₂, ⊎_elim, arith}
use Rattle.std.proofs.lemmas.Bool.{cases_lt, cases_eq, eq-eqb, ne_eqb}
use Rattle.std.proofs.lemmas.List.{get_or-set_same, get_or-set_other, set_past}
use Rattle.patterns.specs.Seats.{seats}
use Rattle.patterns.specs.Anys.{is_member}
use Rattle.seats.specs.declared.seat.Mark.TheVariants.{Failed}
use Rattle.seats.specs.declared.seat.Mark.{Mark}
use Rattle.seats.specs.declared.seat.Seat.{Seat}
use Rattle.seats.specs.Seats.{failed, is_empty, seat_at, present, Columns, Within}
use Rattle.cases.specs.declared.inforce.InForce.{InForce}
use Rattle.cases.specs.Book.{running, as_supposed, seen_mark}
use Rattle.cases.specs.declared.inforce.view.View.{View}
use Rattle.cases.specs.Weighing.{exposure_by, exposure_for, vacant_at}
use Rattle.cases.specs.Views.{in_force_book, shown_book, book_of}
use Rattle.cases.proofs.Sounds.{failed_columns, failed-within}

supposed_columns : (o : Option ℕ) (xs : List Seat) → Columns xs → Columns (as_supposed o xs)
supposed_columns None xs c = c
supposed_columns (Some i) xs c =
    ⊎_elim (λ (h : i < seats). failed_columns xs i h c)
    (λ (h : seats ≤ i). subst Columns (sym (set_past xs i (failed (seat_at xs i).counts) (omega (arith, c.0)))) c)
    (cases_lt i seats)

supposed_within : (years : ℕ) (o : Option ℕ) (xs : List Seat) → Within (present years) xs → Within (present years) (as_supposed o xs)
supposed_within years None xs w = w
supposed_within years (Some i) xs w = failed-within years xs i w

-- a supposition keeps the counts
pub supposed_counts : (o : Option ℕ) (xs : List Seat) (i : ℕ) → (seat_at (as_supposed o xs) i).counts ≡ (seat_at xs i).counts
supposed_counts None xs i = refl
supposed_counts (Some j) xs i =
    ⊎_elim (λ (h : j < length xs).
    ⊎_elim (λ (e : i ≡ j). subst (λ (k : ℕ). (seat_at (set xs j (failed (seat_at xs j).counts)) k).counts ≡ (seat_at xs k).counts) (sym e) (ap (λ (x : Seat). x.counts) (get_or-set_same xs j (failed (seat_at xs j).counts) _ h)))
    (λ (n : i ≡ j → ⊥). ap (λ (x : Seat). x.counts) (get_or-set_other xs j i (failed (seat_at xs j).counts) _ n))
    (cases_eq i j))
    (λ (h : length xs ≤ j). ap (λ (ys : List Seat). (seat_at ys i).counts) (set_past xs j (failed (seat_at xs j).counts) h))
    (cases_lt j (length xs))

-- and marks the supposed seat
pub supposed_mark : (o : Option ℕ) (xs : List Seat) (i : ℕ) → i < length xs → (seat_at (as_supposed o xs) i).mark ≡ seen_mark o i (seat_at xs i).mark
supposed_mark None xs i h = refl
supposed_mark (Some j) xs i h =
    let y = failed (seat_at xs j).counts in
    ⊎_elim
    (λ (e : j ≡ i). ap (λ (x : Seat). x.mark) (subst (λ (k : ℕ). seat_at (set xs k y) i ≡ y) (sym e) (get_or-set_same xs i y _ h)) ∙ sym (ap (λ (b : Bool). cond b Failed (seat_at xs i).mark) (eq-eqb j i e)))
    (λ (n : j ≡ i → ⊥). ap (λ (x : Seat). x.mark) (get_or-set_other xs j i y _ (λ e. n (sym e))) ∙ sym (ap (λ (b : Bool). cond b Failed (seat_at xs i).mark) (ne_eqb j i n)))
    (cases_eq j i)

-- so that a weight sees of it what is seen of its mark and counts
pub supposed_exposure : (o : Option ℕ) (xs : List Seat) (i s t : ℕ) → i < length xs
    → exposure_by (seen_mark o i (seat_at xs i).mark) (get_or (seat_at xs i).counts (s + t) 0) (get_or (seat_at xs i).counts s 0) ≡ exposure_for s t (seat_at (as_supposed o xs) i)
supposed_exposure o xs i s t h =
    ap₂ (λ (m : Mark) (ys : List ℕ). exposure_by m (get_or ys (s + t) 0) (get_or ys s 0)) (sym (supposed_mark o xs i h)) (sym (supposed_counts o xs i))

-- and so does the test of a named seat
pub supposed_vacant : (v : View) (N i : ℕ) → i < length v.case.now.table.seats
    → vacant_at (book_of v) N i ≡ cond (is_member N i) (is_empty (seen_mark v.supposed i (seat_at v.case.now.table.seats i).mark)) false
supposed_vacant v N i h = ap (λ (m : Mark). cond (is_member N i) (is_empty m) false) (supposed_mark v.supposed v.case.now.table.seats i h)

-- of a view
pub view_columns : (v : View) → Columns (book_of v).seats
view_columns v = supposed_columns v.supposed v.case.now.table.seats v.case.now.columns

pub view_within : (v : View) → Within (present (book_of v).elapsed) (book_of v).seats
view_within v = supposed_within v.case.now.elapsed v.supposed v.case.now.table.seats v.case.now.within

-- of a case in force
pub shown_columns : (c : InForce) → Columns (as_supposed c.supposed c.table.seats)
shown_columns c = supposed_columns c.supposed c.table.seats c.columns

pub shown_within : (c : InForce) → Within (present c.elapsed) (as_supposed c.supposed c.table.seats)
shown_within c = supposed_within c.elapsed c.supposed c.table.seats c.within

-- where none stands, the case as supposed is the case itself
pub shown_plain : (c : InForce) → IsNone c.supposed → shown_book c ≡ in_force_book c
shown_plain c h = ap (λ (xs : List Seat). running xs c.elapsed) (go c.supposed c.table.seats h)
  where
    go : (o : Option ℕ) (xs : List Seat) → IsNone o → as_supposed o xs ≡ xs
    go None xs h = refl
    go (Some i) xs h = absurd cc
