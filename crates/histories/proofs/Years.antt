-- A year in the book of a case: the failures of those who do not survive it, one after another, and its end.
use Rattle.std.proofs.Common.{◌≡◌, ℕ, ◌+◌, ◌<◌, ◌≤◌, Bool, true, false, cond, ◌&&◌, ◌||◌, leb, List, [], ◌∷◌, ◌++◌, map, length, get_or, set, Ok, Err, refl, ap, ◌∙◌, ap₂, append_assoc, arith}
use Rattle.std.proofs.lemmas.List.{get_or_at, set_at, length_push}
use Rattle.std.proofs.lemmas.Bool.{false≢true, ne_eqb, leb-true, lt-leb}
use Rattle.refusals.specs.declared.Refusal.TheVariants.{NoSeat, Ending}
use Rattle.patterns.specs.Patterns.{Pattern}
use Rattle.patterns.specs.Seats.{seats as number_of_seats}
use Rattle.seats.specs.declared.seat.Mark.{Mark}
use Rattle.seats.specs.declared.seat.Mark.TheVariants.{Empty, Living, Failed}
use Rattle.seats.specs.declared.seat.Seat.{Seat}
use Rattle.seats.specs.Seats.{seat_of, failed, seat_at, is_living, lives, ending, any_of}
use Rattle.cases.specs.Book.{Book, fail, year_end, seating, judged, judge_mark, done, step, run}
use Rattle.cases.proofs.Judging.{accepted}
use Rattle.histories.specs.Survival.{survives, survivors, others, year_on}

-- ---- the failures of the others
-- a seat after its failure, if it was living
abbrev pub fallen : Seat → Seat
fallen x = cond (lives x) (failed x.counts) x

unfoldable pub moved : List Seat → Pattern → List Seat
moved [] J = []
moved (x ∷ xs) [] = x ∷ xs
moved (x ∷ xs) (true ∷ J) = x ∷ moved xs J
moved (x ∷ xs) (false ∷ J) = fallen x ∷ moved xs J

living_of : (m : Mark) → is_living m ≡ true → m ≡ Living
living_of Empty h = absurd (false≢true h)
living_of Living h = refl
living_of Failed h = absurd (false≢true h)

module _ (b : Book) (ys : List Seat) (k : ℕ) (at : length ys ≡ k) (inside : k < number_of_seats) (x : Seat) (xs : List Seat) where
  abbrev here : List Seat
  here = ys ++ (x ∷ xs)

  found : seat_at here k ≡ x
  found = get_or_at ys x xs _ k at

  may_fail : x.mark ≡ Living → judged (fail k) (seating b here) ≡ Ok tt
  may_fail e =
      ap (λ (u : Bool). cond u (Err NoSeat) (judge_mark (seat_at here k).mark)) (lt-leb number_of_seats k inside)
      ∙ ap (λ (z : Seat). judge_mark z.mark) found
      ∙ ap judge_mark e

  fails_one : x.mark ≡ Living → step (fail k) (seating b here) ≡ seating b (ys ++ (failed x.counts ∷ xs))
  fails_one e =
      accepted (fail k) (seating b here) (may_fail e)
      ∙ ap (λ (z : Seat). seating b (set here k (failed z.counts))) found
      ∙ ap (seating b) (set_at ys x xs (failed x.counts) k at)

  falls-one : (l : Bool) (R : List ℕ) → (l ≡ true → x.mark ≡ Living)
      → run (map fail (cond l (k ∷ R) R)) (seating b here) ≡ run (map fail R) (seating b (ys ++ (cond l (failed x.counts) x ∷ xs)))
  falls-one true R h = ap (run (map fail R)) (fails_one (h refl))
  falls-one false R h = refl

-- the seats ys stand before xs, and have been asked already
all_fall : (b : Book) (ys xs : List Seat) (k : ℕ) (J : Pattern) → length ys ≡ k → k + length xs ≡ number_of_seats
    → run (map fail (others k xs J)) (seating b (ys ++ xs)) ≡ seating b (ys ++ moved xs J)
unfolding others moved
all_fall b ys [] k J e h = refl
all_fall b ys (x ∷ xs) k [] e h = refl
all_fall b ys (x ∷ xs) k (true ∷ J) e h =
    let next = all_fall b (ys ++ (x ∷ [])) xs (k + 1) J (length_push ys x ∙ ap (λ (n : ℕ). n + 1) e) (omega arith) in
    simp append_assoc at next
all_fall b ys (x ∷ xs) k (false ∷ J) e h =
    let next = all_fall b (ys ++ (fallen x ∷ [])) xs (k + 1) J (length_push ys (fallen x) ∙ ap (λ (n : ℕ). n + 1) e) (omega arith) in
    falls-one b ys k e (omega arith) x xs (lives x) (others (k + 1) xs J) (living_of x.mark) ∙ simp append_assoc at next

-- ---- the year end
stays_one : (m : Mark) (xs : List ℕ) (u : ℕ) → is_living m && leb 1 (get_or xs u 0) ≡ true → ending u (seat_of xs m) ≡ false
stays_one Empty xs u h = refl
stays_one Living xs u h = let k : 1 ≤ get_or xs u 0 = leb-true 1 (get_or xs u 0) h in ne_eqb (get_or xs u 0) 0 (λ e. omega arith)
stays_one Failed xs u h = refl

fallen_stays : (m : Mark) (xs : List ℕ) (u : ℕ) → ending u (fallen (seat_of xs m)) ≡ false
fallen_stays Empty xs u = refl
fallen_stays Living xs u = refl
fallen_stays Failed xs u = refl

both : (a b : Bool) → a && b ≡ true → (a ≡ true) × (b ≡ true)
both true b e = (refl, e)
both false b e = absurd (false≢true e)

none_ends : (s : ℕ) (xs : List Seat) (J : Pattern) → length J ≡ length xs → survivors s xs J ≡ true → any_of (ending (s + 1)) (moved xs J) ≡ false
unfolding survivors moved
none_ends s [] J e h = refl
none_ends s (x ∷ xs) [] e h = absurd (omega arith)
none_ends s (x ∷ xs) (true ∷ J) e h =
    let k = both (survives s x) (survivors s xs J) h in
    ap₂ (λ (u v : Bool). u || v) (stays_one x.mark x.counts (s + 1) k.0) (none_ends s xs J (omega arith) k.1)
none_ends s (x ∷ xs) (false ∷ J) e h =
    ap₂ (λ (u v : Bool). u || v) (fallen_stays x.mark x.counts (s + 1)) (none_ends s xs J (omega arith) h)

year_ends : (b : Book) → any_of (ending (b.elapsed + 1)) b.seats ≡ false → step year_end b ≡ done year_end b
year_ends b e = accepted year_end b (ap (λ (u : Bool). cond u (Err Ending) (Ok tt)) e)

pub year_on_is : (b : Book) (J : Pattern) → length b.seats ≡ number_of_seats → length J ≡ length b.seats → survivors b.elapsed b.seats J ≡ true
    → year_on b J ≡ done year_end (seating b (moved b.seats J))
unfolding year_on
year_on_is b J n e h =
    ap (step year_end) (all_fall b [] b.seats 0 J refl (omega arith))
    ∙ year_ends (seating b (moved b.seats J)) (none_ends b.elapsed b.seats J e h)
