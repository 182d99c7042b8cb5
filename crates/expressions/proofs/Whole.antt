-- What a state says of the whole text.
use Rattle.std.proofs.Common.{List, [], ◌∷◌, ◌++◌, subst, append_assoc, append-nil}
use Rattle.tokens.specs.declared.Code.{Code}
use Rattle.expressions.specs.Grammar.{Tree, Says, Viable}
use Rattle.expressions.specs.States.{State, Step, Ends, Accepts, start}
use Rattle.expressions.proofs.Laws.{back, onward, over, ended, live, one-step, to_whole, from_whole}

-- after the tokens pre, the state s accepts what completes an expression, and no more
pub record Stands (pre : List Code) (s : State) : Type 0 where
  pub to : (us : List Code) (t : Tree) → Accepts s us t → Says (pre ++ us) t
  pub of : (us : List Code) (t : Tree) → Says (pre ++ us) t → Accepts s us t

pub at_first : Stands [] start
at_first = record { to = λ us t h. to_whole us t h; of = λ us t h. from_whole us t h }

pub stands_more : (pre : List Code) (s s' : State) (c : Code) → Stands pre s → Step s c s' → Stands (pre ++ c ∷ []) s'
stands_more pre s s' c h step = record {
  to = λ us t k. rw append_assoc (h.to (c ∷ us) t (back us t step k));
  of = λ us t k. let (s'', other, after) = onward s c us t (h.of (c ∷ us) t (rw append_assoc at k)) in subst (λ x. Accepts x us t) (one-step other step) after;
}

pub viable : (pre : List Code) (s : State) → Stands pre s → Viable pre
viable pre s h = let (us, t, k) = live s in (us, t, h.to us t k)

-- where there is no step, no expression has the token there
pub stuck : (pre : List Code) (s : State) (c : Code) → Stands pre s → ((s' : State) → Step s c s' → ⊥) → Viable (pre ++ c ∷ []) → ⊥
stuck pre s c h none v =
    let (us, t, says) = v in
    let (s', step, after) = onward s c us t (h.of (c ∷ us) t (rw append_assoc at says)) in
    none s' step

pub says_end : (pre : List Code) (s : State) (t : Tree) → Stands pre s → Ends s t → Says pre t
says_end pre s t h e = rw append-nil at (h.to [] t (ended e))

pub end_says : (pre : List Code) (s : State) (t : Tree) → Stands pre s → Says pre t → Ends s t
end_says pre s t h says = over s t (h.of [] t (rw append-nil says))
