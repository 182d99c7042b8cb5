-- A step takes off the first token of what is accepted, and no other step does.
use Rattle.std.proofs.Common.{◌≡◌, ℕ, List, [], ◌∷◌, sym, refl, ap, ◌∙◌, subst, arith}
use lib.Count.{ones}
use Rattle.tokens.specs.declared.Code.{Code}
use Rattle.expressions.specs.declared.Group.TheVariants as kind
use Rattle.expressions.specs.declared.Count.TheVariants.{Exact, Least}
use Rattle.tokens.specs.declared.Code.TheVariants as code
use Rattle.expressions.specs.Grammar.{Tree, Part, Reads, seat, group, not, and, or, factor, ands, term, ors, expression}
use Rattle.expressions.specs.Grammar.{a_letter, a_joint, a_last, an_exactly, an_atleast, a_not, a_paren, no_and, an_and, a_term, no_or, an_or, an_expression}
use Rattle.expressions.specs.Open.{Open, whole, inside, first, after_or, lone, after_and, after_not, After}
use Rattle.expressions.specs.States.{counted, State, operand, operator, digit, square, letters, closing, settled, joined, outer, Step, by_not, by_open, by_letter, by_joint, by_last, by_exactly, by_atleast, by_digit, by_square, by_letters, by_closing, by_and, by_or, by_close, Ends, ends, Accepts, start}

pub to_settled : (k : Open factor) (a : Tree) (us : List Code) (t : Tree) → After k a us t → Accepts (settled k a) us t
to_settled (lone k) a us t h = h
to_settled (after_and c k) a us t h = h
to_settled (after_not k) a us t h = to_settled k (not a) us t h

pub from_settled : (k : Open factor) (a : Tree) (us : List Code) (t : Tree) → Accepts (settled k a) us t → After k a us t
from_settled (lone k) a us t h = h
from_settled (after_and c k) a us t h = h
from_settled (after_not k) a us t h = from_settled k (not a) us t h

-- what follows a whole term
to_outer : (k : Open term) (a : Tree) (us : List Code) (t : Tree) → After k a us t → (vs : List Code) × (b : Tree) × Reads (ors (joined k a)) us vs b × After (outer k) b vs t
to_outer (first k) a us t h = h
to_outer (after_or c k) a us t h = h

from_outer : (k : Open term) (a : Tree) (us : List Code) (t : Tree) → ((vs : List Code) × (b : Tree) × Reads (ors (joined k a)) us vs b × After (outer k) b vs t) → After k a us t
from_outer (first k) a us t h = h
from_outer (after_or c k) a us t h = h

abbrev pub Next : State → Code → List Code → Tree → Type 0
Next s c us t = (s' : State) × Step s c s' × Accepts s' us t

pub back : {s s' : State} {c : Code} (us : List Code) (t : Tree) → Step s c s' → Accepts s' us t → Accepts s (c ∷ us) t
back us t by_not (vs, a, r, k) = (vs, not a, a_not r, k)
back us t by_open h =
    let (v, f, rf, h₁) = h in
    let (v₁, b, ra, h₂) = h₁ in
    let (v₂, e, ro, h₃) = h₂ in
    let (v₃, is, h₄) = h₃ in
    (v₃, e, a_paren (an_expression (a_term rf ra) (subst (λ w. Reads (ors b) v₁ w e) is ro)), h₄)
back us t (by_letter {k = k} {s = s} one) h = (us, seat s, a_letter one, from_settled k (seat s) us t h)
back us t by_joint h = (h.1, group kind.Joint h.0, subst (λ w. Reads factor (code.Joint ∷ w) h.1 (group kind.Joint h.0)) (sym h.2) a_joint, h.3)
back us t by_last h = (h.1, group kind.Last h.0, subst (λ w. Reads factor (code.Last ∷ w) h.1 (group kind.Last h.0)) (sym h.2) a_last, h.3)
back us t by_exactly h = (h.2, group (kind.Exactly h.0) h.1, subst (λ w. Reads factor (code.Exactly ∷ w) h.2 (group (kind.Exactly h.0) h.1)) (sym h.3) an_exactly, h.4)
back us t by_atleast h = (h.2, group (kind.AtLeast h.0) h.1, subst (λ w. Reads factor (code.AtLeast ∷ w) h.2 (group (kind.AtLeast h.0) h.1)) (sym h.3) an_atleast, h.4)
back us t (by_digit {d = d}) h = (d, h.0, h.1, ap (λ w. code.Digit d ∷ w) h.2, h.3)
back us t by_square h = (h.0, h.1, ap (λ w. code.OpenSquare ∷ w) h.2, h.3)
back us t (by_letters {s = s}) h = (s, h.0, ap (λ w. code.Letters s ∷ w) h.1, h.2)
back us t (by_closing {g = g} {s = s} {k = k}) h = (us, refl, from_settled k (group g s) us t h)
back us t by_and h =
    let (v, f, rf, h₁) = h in
    let (v₁, b, ra, h₂) = h₁ in
    (v₁, b, an_and rf ra, h₂)
back us t (by_or {k = k} {a = a}) h =
    let (v, f, rf, h₁) = h in
    let (v₁, b, ra, h₂) = h₁ in
    let (v₂, e, ro, h₃) = h₂ in
    (code.Or ∷ us, a, no_and, from_outer k a (code.Or ∷ us) t (v₂, e, an_or (a_term rf ra) ro, h₃))
back us t (by_close {k = k} {a = a} {l = l} e) h =
    (code.Close ∷ us, a, no_and, from_outer k a (code.Close ∷ us) t (code.Close ∷ us, joined k a, no_or, subst (λ o. After o (joined k a) (code.Close ∷ us) t) (sym e) (us, refl, from_settled l (joined k a) us t h)))

term_parts : {us vs : List Code} {b : Tree} → Reads term us vs b → (w : List Code) × (f : Tree) × Reads factor us w f × Reads (ands f) w vs b
term_parts (a_term {a = a} {us = w} rf ra) = (w, a, rf, ra)

expression_parts : {us vs : List Code} {b : Tree} → Reads expression us vs b → (w : List Code) × (f : Tree) × Reads term us w f × Reads (ors f) w vs b
expression_parts (an_expression {a = a} {us = w} rt ro) = (w, a, rt, ro)

next_factor : (k : Open factor) (t : Tree) {c : Code} {us vs : List Code} {a : Tree} → Reads factor (c ∷ us) vs a → After k a vs t → Next (operand k) c us t
next_factor k t (a_letter {s = s} {us = us} one) h = (settled k (seat s), by_letter one, to_settled k (seat s) us t h)
next_factor k t (a_joint {s = s} {us = us}) h = (square kind.Joint k, by_joint, (s, us, refl, h))
next_factor k t (a_last {s = s} {us = us}) h = (square kind.Last k, by_last, (s, us, refl, h))
next_factor k t (an_exactly {d = d} {s = s} {us = us}) h = (digit Exact k, by_exactly, (d, s, us, refl, h))
next_factor k t (an_atleast {d = d} {s = s} {us = us}) h = (digit Least k, by_atleast, (d, s, us, refl, h))
next_factor k t (a_not {us = us} {a = a} r) h = (operand (after_not k), by_not, (us, a, r, h))
next_factor k t (a_paren {us = us} {a = a} r) h =
    let (w, b, rt, ro) = expression_parts r in
    let (v, f, rf, ra) = term_parts rt in
    (operand (lone (first (inside k))), by_open, (v, f, rf, (w, b, ra, (code.Close ∷ us, a, ro, (us, refl, h)))))

next_close : (k : Open term) (a t : Tree) (c : Code) (us : List Code) (o : Open expression) → outer k ≡ o → After o (joined k a) (c ∷ us) t → Next (operator k a) c us t
next_close k a t c us whole e h = let z : ◌≡◌ {A = ℕ} 0 1 = cc h.0 in absurd (omega arith)
next_close k a t c us (inside l) e h =
    let (vs, is, after) = h in
    let same : c ≡ code.Close = cc in
    let left : us ≡ vs = cc in
    let P : Code → Type 0 = λ d. Next (operator k a) d us t in
    subst P (sym same) (settled l (joined k a), by_close e, to_settled l (joined k a) us t (subst (λ w. After l (joined k a) w t) (sym left) after))

next_or : (k : Open term) (a t : Tree) {c : Code} {us vs : List Code} {b : Tree} → Reads (ors (joined k a)) (c ∷ us) vs b → After (outer k) b vs t → Next (operator k a) c us t
next_or k a t {c} {us} no_or h = next_close k a t c us (outer k) refl h
next_or k a t (an_or {us = w} rt ro) h =
    let (v, f, rf, ra) = term_parts rt in
    (operand (lone (after_or (joined k a) (outer k))), by_or, (v, f, rf, (w, _, ra, (_, _, ro, h))))

next_and : (k : Open term) (a t : Tree) {c : Code} {us vs : List Code} {b : Tree} → Reads (ands a) (c ∷ us) vs b → After k b vs t → Next (operator k a) c us t
next_and k a t {c} {us} no_and h = let (v, b, ro, after) = to_outer k a (c ∷ us) t h in next_or k a t ro after
next_and k a t (an_and {b = b} {us = us} rf ra) h = (operand (after_and a k), by_and, (us, b, rf, (_, _, ra, h)))

-- only by a step does the first token come off
pub onward : (s : State) (c : Code) (us : List Code) (t : Tree) → Accepts s (c ∷ us) t → Next s c us t
onward (operand k) c us t h = next_factor k t h.2 h.3
onward (operator k a) c us t h = next_and k a t h.2 h.3
onward (digit q k) c us t h =
    let (d, s, vs, is, after) = h in
    let same : code.Digit d ≡ c = cc in
    let left : us ≡ code.OpenSquare ∷ code.Letters s ∷ code.CloseSquare ∷ vs = cc in
    subst (λ x. Next (digit q k) x us t) same (square (counted q d) k, by_digit, (s, vs, left, after))
onward (square g k) c us t h =
    let (s, vs, is, after) = h in
    let same : code.OpenSquare ≡ c = cc in
    let left : us ≡ code.Letters s ∷ code.CloseSquare ∷ vs = cc in
    subst (λ x. Next (square g k) x us t) same (letters g k, by_square, (s, vs, left, after))
onward (letters g k) c us t h =
    let (s, vs, is, after) = h in
    let same : code.Letters s ≡ c = cc in
    let left : us ≡ code.CloseSquare ∷ vs = cc in
    subst (λ x. Next (letters g k) x us t) same (closing g s k, by_letters, (vs, left, after))
onward (closing g s k) c us t h =
    let (vs, is, after) = h in
    let same : code.CloseSquare ≡ c = cc in
    let left : vs ≡ us = cc in
    subst (λ x. Next (closing g s k) x us t) same (settled k (group g s), by_closing, to_settled k (group g s) us t (subst (λ w. After k (group g s) w t) left after))

no_factor : {vs : List Code} {t : Tree} → Reads factor [] vs t → ⊥
no_factor r = elim r [ ]

cons_nil : {c : Code} {us : List Code} → [] ≡ c ∷ us → ⊥
cons_nil e = let z : ◌≡◌ {A = ℕ} 0 1 = cc in omega arith

over_outer : (k : Open term) (a t : Tree) (o : Open expression) → outer k ≡ o → After o (joined k a) [] t → Ends (operator k a) t
over_outer k a t whole e h = subst (Ends (operator k a)) (sym h.1) (ends e)
over_outer k a t (inside l) e h = absurd (cons_nil h.1)

over_or : (k : Open term) (a t : Tree) {vs : List Code} {b : Tree} → Reads (ors (joined k a)) [] vs b → After (outer k) b vs t → Ends (operator k a) t
over_or k a t no_or h = over_outer k a t (outer k) refl h

over_and : (k : Open term) (a t : Tree) {vs : List Code} {b : Tree} → Reads (ands a) [] vs b → After k b vs t → Ends (operator k a) t
over_and k a t no_and h = let (v, b, ro, after) = to_outer k a [] t h in over_or k a t ro after

-- where nothing follows, the text may end
pub over : (s : State) (t : Tree) → Accepts s [] t → Ends s t
over (operand k) t h = absurd (no_factor h.2)
over (operator k a) t h = over_and k a t h.2 h.3
over (digit q k) t h = absurd (cons_nil h.3)
over (square g k) t h = absurd (cons_nil h.2)
over (letters g k) t h = absurd (cons_nil h.2)
over (closing g s k) t h = absurd (cons_nil h.1)

-- where the text may end, nothing need follow
pub ended : {s : State} {t : Tree} → Ends s t → Accepts s [] t
ended (ends {k = k} {a = a} e) = ([], a, no_and, from_outer k a [] (joined k a) ([], joined k a, no_or, subst (λ o. After o (joined k a) [] (joined k a)) (sym e) (refl, refl)))

-- each open part can be completed
finish : {p : Part} (k : Open p) (a : Tree) → (us : List Code) × (t : Tree) × After k a us t
finish whole a = ([], a, (refl, refl))
finish (inside k) a = let (us, t, h) = finish k a in (code.Close ∷ us, t, (us, refl, h))
finish (first k) a = let (us, t, h) = finish k a in (us, t, (us, a, no_or, h))
finish (after_or c k) a = let (us, t, h) = finish k (or c a) in (us, t, (us, or c a, no_or, h))
finish (lone k) a = let (us, t, h) = finish k a in (us, t, (us, a, no_and, h))
finish (after_and c k) a = let (us, t, h) = finish k (and c a) in (us, t, (us, and c a, no_and, h))
finish (after_not k) a = finish k (not a)

-- each state can be completed
pub live : (s : State) → (us : List Code) × (t : Tree) × Accepts s us t
unfolding ones
live (operand k) = let (us, t, h) = finish k (seat 1) in (code.Letters 1 ∷ us, t, (us, seat 1, a_letter refl, h))
live (operator k a) = let (us, t, h) = finish k a in (us, t, (us, a, no_and, h))
live (digit q k) = let (us, t, h) = finish k (group (counted q 0) 1) in (code.Digit 0 ∷ code.OpenSquare ∷ code.Letters 1 ∷ code.CloseSquare ∷ us, t, (0, 1, us, refl, h))
live (square g k) = let (us, t, h) = finish k (group g 1) in (code.OpenSquare ∷ code.Letters 1 ∷ code.CloseSquare ∷ us, t, (1, us, refl, h))
live (letters g k) = let (us, t, h) = finish k (group g 1) in (code.Letters 1 ∷ code.CloseSquare ∷ us, t, (1, us, refl, h))
live (closing g s k) = let (us, t, h) = finish k (group g s) in (code.CloseSquare ∷ us, t, (us, refl, h))

abbrev within : Open expression → Open factor → Open factor
within whole d = d
within (inside l) d = l

-- at most one step
pub one-step : {s s₁ s₂ : State} {c : Code} → Step s c s₁ → Step s c s₂ → s₁ ≡ s₂
one-step by_not by_not = refl
one-step by_open by_open = refl
one-step (by_letter h) (by_letter j) = refl
one-step by_joint by_joint = refl
one-step by_last by_last = refl
one-step by_exactly by_exactly = refl
one-step by_atleast by_atleast = refl
one-step by_digit by_digit = refl
one-step by_square by_square = refl
one-step by_letters by_letters = refl
one-step by_closing by_closing = refl
one-step by_and by_and = refl
one-step by_or by_or = refl
one-step (by_close {k = k} {a = a} {l = l} e) (by_close {l = m} f) = let same : inside l ≡ inside m = sym e ∙ f in ap (λ o. settled (within o l) (joined k a)) same

pub to_whole : (us : List Code) (t : Tree) → Accepts start us t → Reads expression us [] t
to_whole us t h =
    let (v, f, rf, h₁) = h in
    let (v₁, b, ra, h₂) = h₁ in
    let (v₂, e, ro, h₃) = h₂ in
    subst (λ w. Reads expression us w t) h₃.0 (subst (λ x. Reads expression us v₂ x) (sym h₃.1) (an_expression (a_term rf ra) ro))

pub from_whole : (us : List Code) (t : Tree) → Reads expression us [] t → Accepts start us t
from_whole us t r =
    let (w, b, rt, ro) = expression_parts r in
    let (v, f, rf, ra) = term_parts rt in
    (v, f, rf, (w, b, ra, ([], t, ro, (refl, refl))))
