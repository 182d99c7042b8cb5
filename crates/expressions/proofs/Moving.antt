-- What one token more does to the stacks, and where there is no step.
use Rattle.std.proofs.Common.{◌≡◌, ℕ, ◌+◌, ◌-◌, ◌≤◌, true, false, List, [], ◌∷◌, length, sym, refl, ap, ◌∙◌, subst, arith}
use Rattle.tokens.specs.declared.Code.{Code}
use Rattle.tokens.specs.declared.Code.TheVariants as code
use Rattle.expressions.specs.declared.Group.{Group}
use Rattle.expressions.specs.declared.Count.{Count}
use Rattle.expressions.specs.declared.Reader.{Reader}
use Rattle.expressions.specs.declared.Word.{Word}
use Rattle.expressions.specs.declared.Word.TheVariants.{Or, And, Not, Open}
use Rattle.expressions.specs.declared.Expect.{Expect}
use Rattle.expressions.specs.declared.Expect.TheVariants as expect
use Rattle.expressions.specs.Grammar.{Tree, factor, term, expression, seat, group, not}
use Rattle.expressions.specs.Layout.{words_in, masks_in, words_of, masks_of, words, masks, expects, Fits, complete_words, complete_masks, join_words, join_masks, is_top, is_nil}
use Rattle.expressions.specs.Masks.{always, mask_of}
use Rattle.expressions.specs.Moves.{Moved, Stuck, Same}
use Rattle.tokens.specs.Letters.{seats_of}
use Rattle.expressions.specs.Open as part
use Rattle.expressions.specs.Open.{whole, inside, first, after_or, lone, after_and, after_not}
use Rattle.expressions.specs.States.{State, operand, operator, digit, square, letters, closing, settled, joined, outer, Step, by_not, by_open, by_letter, by_joint, by_last, by_exactly, by_atleast, by_digit, by_square, by_letters, by_closing, by_and, by_or, by_close, Ends, ends}

-- no "not" and no "and" waits for a whole term
term_words : (k : part.Open term) → complete_words (words_of k) ≡ words_of k
term_words (first whole) = refl
term_words (first (inside k)) = refl
term_words (after_or a k) = refl

term_masks : (k : part.Open term) (ms : List ℕ) (m : ℕ) → complete_masks (words_of k) ms m ≡ m ∷ ms
term_masks (first whole) ms m = refl
term_masks (first (inside k)) ms m = refl
term_masks (after_or a k) ms m = refl

settled-expects : (k : part.Open factor) (a : Tree) → expects (settled k a) ≡ expect.Operator
settled-expects (lone k) a = refl
settled-expects (after_and c k) a = refl
settled-expects (after_not k) a = settled-expects k (not a)

settled-words : (k : part.Open factor) (a : Tree) → complete_words (words_of k) ≡ words (settled k a)
settled-words (lone k) a = term_words k
settled-words (after_and c k) a = refl
settled-words (after_not k) a = settled-words k (not a)

settled-masks : (k : part.Open factor) (a : Tree) → complete_masks (words_of k) (masks_of k) (mask_of a) ≡ masks (settled k a)
settled-masks (lone k) a = term_masks k (masks_of k) (mask_of a)
settled-masks (after_and c k) a = refl
settled-masks (after_not k) a = settled-masks k (not a)

-- a term joins the terms before it
pub joined_words : (k : part.Open term) → join_words (words_of k) ≡ words_of (outer k)
joined_words (first whole) = refl
joined_words (first (inside k)) = refl
joined_words (after_or c k) = refl

pub joined-masks : (k : part.Open term) (a : Tree) → join_masks (words_of k) (mask_of a ∷ masks_of k) ≡ mask_of (joined k a) ∷ masks_of (outer k)
joined-masks (first whole) a = refl
joined-masks (first (inside k)) a = refl
joined-masks (after_or c k) a = refl

no : false ≡ true → ⊥
no e = let z : ◌≡◌ {A = ℕ} 0 1 = cc in omega arith

pub open_there : (o : part.Open expression) → is_top Open (words_of o) ≡ true → (l : part.Open factor) × (o ≡ inside l)
open_there whole e = absurd (no e)
open_there (inside l) e = (l, refl)

pub close_stuck : (k : part.Open term) (a : Tree) → is_top Open (words_of (outer k)) ≡ false → (s' : State) → Step (operator k a) code.Close s' → ⊥
close_stuck k a shut s' (by_close e) = no (sym shut ∙ ap (λ o. is_top Open (words_of o)) e)

pub digit_stuck : (q : Count) (k : part.Open factor) (c : Code) → ((d : ℕ) → c ≡ code.Digit d → ⊥) → (s' : State) → Step (digit q k) c s' → ⊥
digit_stuck q k c n s' (by_digit {d = d}) = n d refl

pub square_stuck : (g : Group) (k : part.Open factor) (c : Code) → (c ≡ code.OpenSquare → ⊥) → (s' : State) → Step (square g k) c s' → ⊥
square_stuck g k c n s' by_square = n refl

pub run_stuck : (g : Group) (k : part.Open factor) (c : Code) → ((s : ℕ) → c ≡ code.Letters s → ⊥) → (s' : State) → Step (letters g k) c s' → ⊥
run_stuck g k c n s' (by_letters {s = s}) = n s refl

pub closing_stuck : (g : Group) (s : ℕ) (k : part.Open factor) (c : Code) → (c ≡ code.CloseSquare → ⊥) → (s' : State) → Step (closing g s k) c s' → ⊥
closing_stuck g s k c n s' by_closing = n refl

-- the token d is taken, and the reader stands in s'
pub moved : (s s' : State) {c d : Code} {r : Reader} → c ≡ d → Step s d s' → r.expect ≡ expects s' → words_in r ≡ words s' → masks_in r ≡ masks s' → Moved s c r
moved s s' {r = r} is step e w m = subst (λ x. Moved s x r) (sym is) (s', step, record { expecting = e; waiting = w; answering = m })

-- the token d completes the factor a
pub settled_by : (s : State) (k : part.Open factor) (a : Tree) (ws : List Word) (ms : List ℕ) (m : ℕ) {c d : Code} {r : Reader} → c ≡ d → Step s d (settled k a) → ws ≡ words_of k → ms ≡ masks_of k → m ≡ mask_of a → r.expect ≡ expect.Operator → words_in r ≡ complete_words ws → masks_in r ≡ complete_masks ws ms m → Moved s c r
settled_by s k a ws ms m here step at on is e w q =
    moved s (settled k a) here step (e ∙ sym (settled-expects k a)) (w ∙ ap complete_words at ∙ settled-words k a) (q ∙ (λ i. complete_masks (at i) (on i) (is i)) ∙ settled-masks k a)

pub no_seats : (c : Code) → ((s : ℕ) → c ≡ code.Letters s → ⊥) → seats_of c ≡ 0
no_seats code.Or n = refl
no_seats code.And n = refl
no_seats code.Not n = refl
no_seats code.Joint n = refl
no_seats code.Last n = refl
no_seats code.Exactly n = refl
no_seats code.AtLeast n = refl
no_seats (code.Letters s) n = absurd (n s refl)
no_seats (code.Digit d) n = refl
no_seats code.Open n = refl
no_seats code.Close n = refl
no_seats code.OpenSquare n = refl
no_seats code.CloseSquare n = refl

pub nothing_open : (o : part.Open expression) → is_nil (words_of o) ≡ true → o ≡ whole
nothing_open whole e = refl
nothing_open (inside l) e = absurd (no e)

pub still_open : (k : part.Open term) (a t : Tree) → is_nil (words_of (outer k)) ≡ false → Ends (operator k a) t → ⊥
still_open k a t shut (ends e) = no (sym shut ∙ ap (λ o. is_nil (words_of o)) e)

pub not_ended : (s : State) → (expects s ≡ expect.Operator → ⊥) → (t : Tree) → Ends s t → ⊥
not_ended s n t (ends e) = n refl

-- the states that expect e
abbrev pub Is : Expect → State → Type 0
Is expect.Operand s = (k : part.Open factor) × (s ≡ operand k)
Is expect.Operator s = (k : part.Open term) × (a : Tree) × (s ≡ operator k a)
Is (expect.Digit q) s = (k : part.Open factor) × (s ≡ digit q k)
Is (expect.Square g) s = (k : part.Open factor) × (s ≡ square g k)
Is (expect.Letters g) s = (k : part.Open factor) × (s ≡ letters g k)
Is (expect.Closing g n) s = (k : part.Open factor) × (s ≡ closing g n k)

expects_is : (s : State) → Is (expects s) s
expects_is (operand k) = (k, refl)
expects_is (operator k a) = (k, a, refl)
expects_is (digit q k) = (k, refl)
expects_is (square g k) = (k, refl)
expects_is (letters g k) = (k, refl)
expects_is (closing g n k) = (k, refl)

-- which state a reader is in that expects e
pub state_is : (s : State) {r : Reader} (e : Expect) → Fits s r → r.expect ≡ e → Is e s
state_is s e f is = subst (λ x. Is x s) (sym f.expecting ∙ is) (expects_is s)

-- a step from t is one from the same state s
pub from_state : {s t : State} {c : Code} {r : Reader} → s ≡ t → Moved t c r → Moved s c r
from_state {c = c} {r = r} is m = subst (λ x. Moved x c r) (sym is) m

pub stuck_state : {s t : State} {c : Code} → s ≡ t → Stuck t c → Stuck s c
stuck_state {c = c} is m = subst (λ x. Stuck x c) (sym is) m

pub fits_same : {s : State} {r m : Reader} → Same r m → Fits s r → Fits s m
fits_same n f = record { expecting = n.same_expect ∙ f.expecting; waiting = n.same_words ∙ f.waiting; answering = n.same_masks ∙ f.answering }

complete_words_short : (ws : List Word) → length (complete_words ws) ≤ length ws
complete_words_short [] = omega arith
complete_words_short (Or ∷ ws) = omega arith
complete_words_short (And ∷ ws) = omega arith
complete_words_short (Not ∷ ws) = omega (arith, complete_words_short ws)
complete_words_short (Open ∷ ws) = omega arith

complete_masks_short : (ws : List Word) (ms : List ℕ) (m : ℕ) → length (complete_masks ws ms m) ≤ length ms + 1
complete_masks_short [] ms m = omega arith
complete_masks_short (Or ∷ ws) ms m = omega arith
complete_masks_short (And ∷ ws) [] m = omega arith
complete_masks_short (And ∷ ws) (x ∷ ms) m = omega arith
complete_masks_short (Not ∷ ws) ms m = complete_masks_short ws ms (always - m)
complete_masks_short (Open ∷ ws) ms m = omega arith

settled_words_short : (k : part.Open factor) (a : Tree) → length (words (settled k a)) ≤ length (words_of k) + 1
settled_words_short k a = omega (arith, ap length (settled-words k a), complete_words_short (words_of k))

settled_masks_short : (k : part.Open factor) (a : Tree) → length (masks (settled k a)) ≤ length (masks_of k) + 1
settled_masks_short k a = omega (arith, ap length (settled-masks k a), complete_masks_short (words_of k) (masks_of k) (mask_of a))

outer-words : (k : part.Open term) → length (words_of (outer k)) ≤ length (words_of k)
outer-words (first k) = omega arith
outer-words (after_or c k) = omega arith

outer-masks : (k : part.Open term) → length (masks_of (outer k)) ≤ length (masks_of k)
outer-masks (first k) = omega arith
outer-masks (after_or c k) = omega arith

-- a token adds at most one word and one answer
pub step_words : {s s' : State} {c : Code} → Step s c s' → length (words s') ≤ length (words s) + 1
step_words by_not = omega arith
step_words by_open = omega arith
step_words (by_letter {k = k} {s = s} one) = settled_words_short k (seat s)
step_words by_joint = omega arith
step_words by_last = omega arith
step_words by_exactly = omega arith
step_words by_atleast = omega arith
step_words by_digit = omega arith
step_words by_square = omega arith
step_words by_letters = omega arith
step_words (by_closing {g = g} {s = s} {k = k}) = settled_words_short k (group g s)
step_words by_and = omega arith
step_words (by_or {k = k}) = omega (arith, outer-words k)
step_words (by_close {k = k} {a = a} {l = l} e) = omega (arith, settled_words_short l (joined k a), outer-words k, ap (λ o. length (words_of o)) e)

pub step-masks : {s s' : State} {c : Code} → Step s c s' → length (masks s') ≤ length (masks s) + 1
step-masks by_not = omega arith
step-masks by_open = omega arith
step-masks (by_letter {k = k} {s = s} one) = settled_masks_short k (seat s)
step-masks by_joint = omega arith
step-masks by_last = omega arith
step-masks by_exactly = omega arith
step-masks by_atleast = omega arith
step-masks by_digit = omega arith
step-masks by_square = omega arith
step-masks by_letters = omega arith
step-masks (by_closing {g = g} {s = s} {k = k}) = settled_masks_short k (group g s)
step-masks by_and = omega arith
step-masks (by_or {k = k}) = omega (arith, outer-masks k)
step-masks (by_close {k = k} {a = a} {l = l} e) = omega (arith, settled_masks_short l (joined k a), outer-masks k, ap (λ o. length (masks_of o)) e)
