-- Calls by their answers, and bases that are loaded.
use Rattle.std.proofs.Common.{◌≡◌, ℕ, ◌*◌, ◌≤◌, List, Ok, Err, Result, sym, refl, ap, ◌∙◌, inl, inr}
use Rattle.std.proofs.lemmas.Bool.{le-ltb, le-leb, cases_Bool}
use Rattle.refusals.specs.declared.Refusal.TheVariants.{Counts}
use Rattle.lives.specs.Column.{column}
use Rattle.lives.specs.Projection.{projected, entries}
use Rattle.lives.specs.Counts.{listed, straight, later}
use Rattle.lives.specs.Tables.{Fair, fairly}
use Rattle.lives.proofs.Fairness.{fairly_from, fair_from_fairly}
use Rattle.cases.specs.Book.{Book, Call, Answer, judged, step, done, enrol}
use Rattle.cases.specs.Book as book
use Rattle.schemes.specs.Enrolment.{enrolled, adjusted, call, by_answer, by_step, by_table, Leaves}

-- what is answered
abbrev pub answer_of : {X E : Type 0} → Result X E → Result (Unit {0}) E
answer_of (Ok x) = Ok tt
answer_of (Err e) = Err e

-- what is left: the new, or the old where it is refused
abbrev pub after : {X E : Type 0} → Result X E → X → X
after (Ok x) old = x
after (Err e) old = old

answer_is : (a : Answer) (b : Book) → answer_of (by_answer a b) ≡ a
answer_is (Ok u) b = refl
answer_is (Err e) b = refl

after_is : (a : Answer) (new old : Book) → after (by_answer a new) old ≡ book.by_answer a new old
after_is (Ok u) new old = refl
after_is (Err e) new old = refl

-- what a call answers and leaves
pub call_answer : (c : Call) (b : Book) → judged c b ≡ answer_of (call c b)
call_answer c b = sym (answer_is (judged c b) (done c b))

pub call-after : (c : Call) (b : Book) → step c b ≡ after (call c b) b
call-after c b = sym (after_is (judged c b) (done c b) b)

pub enrolled_is : (l : ℕ → ℕ) (seat aged factor : ℕ) (b : Book) → factor ≤ 10000 → call (enrol seat (adjusted l aged factor)) b ≡ enrolled (Ok l) seat aged factor b
enrolled_is l seat aged factor b h = sym (rw (le-ltb 10000 factor h) refl)

-- the counts depend on the basis, the years and the factors alone
pub same_counts : {B : Type 0} (count : B → ℕ → ℕ) (x y : B) (j k : ℕ) (fs gs : List ℕ) → x ≡ y → j ≡ k → fs ≡ gs → column (projected (later (count x) j) (entries fs)) ≡ column (projected (later (count y) k) (entries gs))
same_counts count x y j k fs gs p q r = λ i. column (projected (later (count (p i)) (q i)) (entries (r i)))

pub by_table_is : (xs counts : List ℕ) → Fair xs → ((t : ℕ) → listed counts t ≡ listed xs t) → Ok (listed counts) ≡ by_table xs
by_table_is xs counts f e = (λ i. Ok (λ t. e t i)) ∙ sym (rw (fairly_from xs f) refl)

pub by_table_not : (xs : List ℕ) → (Fair xs → ⊥) → by_table xs ≡ Err Counts
by_table_not xs n = elim (cases_Bool (fairly xs)) [ inl e ↦ absurd (n (fair_from_fairly xs e)) | inr e ↦ rw e refl ]

pub by_step_is : (w m years step : ℕ) → w ≤ 120 → m * w ≤ 1000000 → years ≡ w → step ≡ m → Ok (straight years step) ≡ by_step w m
by_step_is w m years step h g y s =
    (λ i. Ok (straight (y i) (s i))) ∙ sym (rw (le-leb w 120 h, le-leb (m * w) 1000000 g) refl)

-- what is answered and left, in one
pub leaves_from : {X E : Type 0} (x : Result X E) (r : Result (Unit {0}) E) (new old : X) → r ≡ answer_of x → new ≡ after x old → Leaves x r new old
leaves_from (Ok y) (Ok u) new old a e = ap (λ z. Ok z) (sym e)
leaves_from (Ok y) (Err why) new old a e = absurd cc
leaves_from (Err f) (Ok u) new old a e = absurd cc
leaves_from (Err f) (Err why) new old a e = (cc, e)
