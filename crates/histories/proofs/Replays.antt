-- One call more of a history.
use Rattle.std.proofs.Common.{◌≡◌, ℕ, ◌+◌, ◌<◌, ◌≤◌, List, [], ◌∷◌, ◌++◌, map, length, get_or, drop, sym, refl, ap, ◌∙◌}
use Rattle.std.proofs.lemmas.List.{at_drop_more, at_drop_all}
use Rattle.cases.specs.Book.{Book, Call, step, run}
use Rattle.histories.specs.declared.calls.Enrolment.{Enrolment}
use Rattle.histories.specs.declared.calls.Event.{Event}
use Rattle.histories.specs.History.{called, calls_of, calls}

-- calls in two rows
run_both : (cs ds : List Call) (b : Book) → run (cs ++ ds) b ≡ run ds (run cs b)
run_both [] ds b = refl
run_both (c ∷ cs) ds b = run_both cs ds (step c b)

-- a row that is made one element after another, each by its own calls
module _ {X : Type 0} (row : List X → List Call) (one : X → List Call) (cons : (x : X) (xs : List X) → row (x ∷ xs) ≡ one x ++ row xs) (none : row [] ≡ []) where
  pub run_more : (xs : List X) (i : ℕ) (d : X) (b b' whole : Book) → i < length xs → run (row (drop i xs)) b ≡ whole → b' ≡ run (one (get_or xs i d)) b → run (row (drop (i + 1) xs)) b' ≡ whole
  run_more xs i d b b' whole h inv e =
      let more : run (row (drop i xs)) b ≡ run (row (get_or xs i d ∷ drop (i + 1) xs)) b = at_drop_more (λ (ys : List X). run (row ys) b) xs i d h in
      ap (run (row (drop (i + 1) xs))) e
      ∙ sym (more ∙ ap (λ (cs : List Call). run cs b) (cons (get_or xs i d) (drop (i + 1) xs)) ∙ run_both (one (get_or xs i d)) (row (drop (i + 1) xs)) b)
      ∙ inv

  pub run-all : (xs : List X) (i : ℕ) (b whole : Book) → length xs ≤ i → run (row (drop i xs)) b ≡ whole → b ≡ whole
  run-all xs i b whole h inv =
      let past : run (row (drop i xs)) b ≡ run (row []) b = at_drop_all (λ (ys : List X). run (row ys) b) xs i h in
      sym (past ∙ ap (λ (cs : List Call). run cs b) none) ∙ inv

-- the events of a case in force
pub carry_more : (es : List Event) (i : ℕ) (d : Event) (b b' whole : Book) → i < length es → run (calls (drop i es)) b ≡ whole → b' ≡ run (calls_of (get_or es i d)) b → run (calls (drop (i + 1) es)) b' ≡ whole
carry_more = run_more calls calls_of (λ e es. refl) refl

pub carry_all : (es : List Event) (i : ℕ) (b whole : Book) → length es ≤ i → run (calls (drop i es)) b ≡ whole → b ≡ whole
carry_all = run-all calls calls_of (λ e es. refl) refl

-- the enrolments
module _ {L : Type 0} (count : L → ℕ → ℕ) where
  pub enter_more : (es : List (Enrolment L)) (i : ℕ) (d : Enrolment L) (b b' whole : Book) → i < length es → run (map (called count) (drop i es)) b ≡ whole
      → b' ≡ step (called count (get_or es i d)) b → run (map (called count) (drop (i + 1) es)) b' ≡ whole
  enter_more = run_more (map (called count)) (λ e. called count e ∷ []) (λ e es. refl) refl

  pub enter_all : (es : List (Enrolment L)) (i : ℕ) (b whole : Book) → length es ≤ i → run (map (called count) (drop i es)) b ≡ whole → b ≡ whole
  enter_all = run-all (map (called count)) (λ e. called count e ∷ []) (λ e es. refl) refl
