-- How a call is judged on the book, and what it then does.
use Rattle.std.proofs.Common.{◌≡◌, ℕ, ◌<◌, ◌≤◌, ◌⊎◌, List, get_or, set, Ok, Err, ap, ⊎_elim}
use Rattle.std.proofs.lemmas.Bool.{lt-leb, le-ltb, lt-ltb, eq-eqb, ne_eqb}
use Rattle.refusals.specs.declared.Refusal.{Refusal}
use Rattle.refusals.specs.declared.Refusal.TheVariants.{NoCount, ProductTooLarge}
use Rattle.seats.specs.declared.seat.Mark.TheVariants.{Empty, Living, Failed}
use Rattle.seats.specs.declared.seat.Seat.{Seat}
use Rattle.patterns.specs.Seats.{seats}
use Rattle.seats.specs.Seats.{Seated, seat_at, living, product, first, greatest}
use Rattle.cases.specs.Book.{Book, Call, judged, judge_enrol, judge_withdraw, done, step, by_answer}

pub refused : (call : Call) (b : Book) (e : Refusal) → judged call b ≡ Err e → step call b ≡ b
refused call b e h = ap (λ a. by_answer a (done call b) b) h

pub accepted : (call : Call) (b : Book) → judged call b ≡ Ok tt → step call b ≡ done call b
accepted call b h = ap (λ a. by_answer a (done call b) b) h

module _ (xs : List Seat) (i : ℕ) (inside : Seated i) where
  pub enrol_uncounted : (counts : List ℕ) → (seat_at xs i).mark ≡ Empty → get_or counts 0 0 ≡ 0 → judge_enrol xs i counts ≡ Err NoCount
  enrol_uncounted counts empty h = rw (lt-leb seats i inside, empty, eq-eqb (get_or counts 0 0) 0 h)

  pub enrol_too_large : (counts : List ℕ) → (seat_at xs i).mark ≡ Empty → (get_or counts 0 0 ≡ 0 → ⊥) → greatest < product first (set xs i (living counts)) → judge_enrol xs i counts ≡ Err ProductTooLarge
  enrol_too_large counts empty h over = rw (lt-leb seats i inside, empty, ne_eqb (get_or counts 0 0) 0 h, lt-ltb greatest (product first (set xs i (living counts))) over)

  pub enrol_accepted : (counts : List ℕ) → (seat_at xs i).mark ≡ Empty → (get_or counts 0 0 ≡ 0 → ⊥) → product first (set xs i (living counts)) ≤ greatest → judge_enrol xs i counts ≡ Ok tt
  enrol_accepted counts empty h within = rw (lt-leb seats i inside, empty, ne_eqb (get_or counts 0 0) 0 h, le-ltb greatest (product first (set xs i (living counts))) within)

  pub withdraw_accepted : ((seat_at xs i).mark ≡ Living) ⊎ ((seat_at xs i).mark ≡ Failed) → judge_withdraw xs i ≡ Ok tt
  withdraw_accepted held =
      ⊎_elim (λ (h : (seat_at xs i).mark ≡ Living). rw (lt-leb seats i inside, h)) (λ (h : (seat_at xs i).mark ≡ Failed). rw (lt-leb seats i inside, h)) held
