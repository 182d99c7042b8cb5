-- Whether any seat passes a test.
use Rattle.std.proofs.Common.{◌≡◌, ℕ, zero, suc, ◌<◌, Bool, true, false, ◌||◌, List, [], ◌∷◌, length, ⊎_elim, sym, ap, ◌∙◌, arith}
use Rattle.std.proofs.lemmas.Bool.{cases_Bool, false≢true, or_parts}
use Rattle.seats.specs.declared.seat.Mark.TheVariants.{Empty}
use Rattle.seats.specs.declared.seat.Seat.{Seat}
use Rattle.seats.specs.Seats.{seat_at, seat_of, any_of}

module _ (p : Seat → Bool) where
  pub any_false : (xs : List Seat) → any_of p xs ≡ false → p (seat_of [] Empty) ≡ false → (i : ℕ) → p (seat_at xs i) ≡ false
  any_false [] e none i = none
  any_false (x ∷ xs) e none zero = (or_parts (p x) (any_of p xs) e).0
  any_false (x ∷ xs) e none (suc i) = any_false xs (or_parts (p x) (any_of p xs) e).1 none i

  pub any_true : (xs : List Seat) → any_of p xs ≡ true → (i : ℕ) × ((i < length xs) × (p (seat_at xs i) ≡ true))
  any_true [] e = absurd (false≢true e)
  any_true (x ∷ xs) e =
      ⊎_elim (λ (t : p x ≡ true). (0, (omega arith, t)))
      (λ (f : p x ≡ false). let r = any_true xs (sym (ap (λ b. b || any_of p xs) f) ∙ e) in (suc r.0, (omega (arith, r.1.0), r.1.1)))
      (cases_Bool (p x))
