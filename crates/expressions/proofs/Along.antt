-- How far the reader has come.
use Rattle.std.proofs.Common.{◌≡◌, ℕ, ◌+◌, ◌<◌, ◌≤◌, List, [], ◌∷◌, ◌++◌, length, get_or, map, take, Ok, Err, Result, sym, refl, ap, ◌∙◌, subst, arith, take_all}
use lib.Bits.{bit_or}
use Rattle.std.proofs.lemmas.List.{take_more, length-map, map-append, take-map, get_or-map, get_or_past}
use Rattle.std.proofs.lemmas.List.Sums.{fold_push}
use Rattle.tokens.specs.declared.Token.{Token}
use Rattle.expressions.specs.declared.Reader.{Reader}
use Rattle.expressions.specs.Grammar.{Tree, Viable}
use Rattle.expressions.specs.Layout.{words_in, masks_in, Fits}
use Rattle.expressions.specs.Moves.{Moved, Stuck, wrong, Finished}
use Rattle.tokens.specs.Letters.{seats_of}
use Rattle.expressions.specs.States.{State, start, Ends, ends}
use Rattle.expressions.specs.Verdict.{codes_of, Verdict}
use Rattle.expressions.proofs.Moving.{step_words, step-masks}
use Rattle.expressions.proofs.Names.{named_in, named_is}
use Rattle.expressions.proofs.Whole.{Stands, at_first, stands_more, viable, stuck, says_end, end_says}
use Rattle.expressions.proofs.Packs.{mask_is}
use Rattle.tokens.specs.declared.faults.TokenFault.{TokenFault}
use Rattle.expressions.specs.declared.Reading.{Reading}
use Rattle.expressions.specs.declared.Expect.TheVariants as expect

pub record Along (ts : List Token) (i : ℕ) (r : Reader) : Type 0 where
  pub state : State
  pub stands : Stands (codes_of (take i ts)) state
  pub fits : Fits state r
  pub words_few : length (words_in r) ≤ i
  pub masks_few : length (masks_in r) ≤ i
  pub named_so : r.named ≡ named_in (codes_of (take i ts))

codes_more : (ts : List Token) (i : ℕ) (t : Token) → i < length ts → t ≡ get_or ts i t → codes_of (take (i + 1) ts) ≡ codes_of (take i ts) ++ t.code ∷ []
codes_more ts i t h is = ap codes_of (take_more ts i t h ∙ ap (λ x. take i ts ++ x ∷ []) (sym is)) ∙ map-append (λ x. x.code) (take i ts) (t ∷ [])

pub along_more : (ts : List Token) (i : ℕ) (r r' : Reader) (t : Token) → i < length ts → t ≡ get_or ts i t → (h : Along ts i r) → Moved h.state t.code r' → r'.named ≡ bit_or r.named (seats_of t.code) → Along ts (i + 1) r'
along_more ts i r r' t lt is h m named =
    let (s', step, fits) = m in
    let more = codes_more ts i t lt is in
    record {
      state = s';
      stands = subst (λ cs. Stands cs s') (sym more) (stands_more (codes_of (take i ts)) h.state s' t.code h.stands step);
      fits = fits;
      words_few = omega (arith, step_words step, ap length fits.waiting, ap length h.fits.waiting, h.words_few);
      masks_few = omega (arith, step-masks step, ap length fits.answering, ap length h.fits.answering, h.masks_few);
      named_so = named ∙ ap (λ n. bit_or n (seats_of t.code)) h.named_so ∙ sym (ap named_in more ∙ fold_push (λ n c. bit_or n (seats_of c)) 0 (codes_of (take i ts)) t.code);
    }

pub along_none : (ts : List Token) (r : Reader) → words_in r ≡ [] → masks_in r ≡ [] → r.expect ≡ expect.Operand → r.named ≡ 0 → Along ts 0 r
along_none ts r w m e n = record {
  state = start;
  stands = at_first;
  fits = record { expecting = e; waiting = w; answering = m };
  words_few = omega (arith, ap length w);
  masks_few = omega (arith, ap length m);
  named_so = n;
}

-- a token that has no step
pub fault_at : (ts : List Token) (i end : ℕ) (r : Reader) (t : Token) (e : TokenFault) → i < length ts → t ≡ get_or ts i t → (h : Along ts i r) → e ≡ wrong t.place → Stuck h.state t.code → Verdict (Err e) ts end
fault_at ts i end r t e lt is h what none = (
  i,
  record {
    within = omega (arith, length-map ts (λ x. x.code));
    before = subst Viable (sym (take-map (λ x. x.code) i ts)) (viable _ h.state h.stands);
    there = λ _ v. stuck (codes_of (take i ts)) h.state t.code h.stands none (subst Viable (take-map (λ x. x.code) (i + 1) ts ∙ codes_more ts i t lt is) v);
    at_end = λ z. absurd (omega (arith, length-map ts (λ x. x.code)));
  },
  what ∙ ap wrong (ap (λ x. x.place) is ∙ sym (get_or-map (λ x. x.place) ts i t end lt)),
)

one_end : {s : State} {t t' : Tree} → Ends s t → Ends s t' → t' ≡ t
one_end (ends e) (ends f) = refl

-- the end of the text
pub at_the_end : (ts : List Token) (i end : ℕ) (r : Reader) (x : Result Reading TokenFault) → length ts ≤ i → i ≤ length ts → (h : Along ts i r) → Finished x h.state end r.named → Verdict x ts end
at_the_end ts i end r (Ok x) ge le h f =
    let (t, e, mask, named) = f in
    let all = ap codes_of (take_all i ts ge) in
    let s : Stands (codes_of ts) h.state = subst (λ cs. Stands cs h.state) all h.stands in
    record {
      tree = t;
      says = says_end _ _ t s e;
      alone = λ t' said. one_end e (end_says _ _ t' s said);
      answers = mask ∙ mask_is t;
      names = named ∙ h.named_so ∙ ap named_in all ∙ named_is (says_end _ _ t s e);
    }
at_the_end ts i end r (Err e) ge le h f =
    let all = ap codes_of (take_all i ts ge) in
    let s : Stands (codes_of ts) h.state = subst (λ cs. Stands cs h.state) all h.stands in (
      i,
      record {
        within = omega (arith, length-map ts (λ x. x.code));
        before = subst Viable (sym (take-map (λ x. x.code) i ts)) (viable _ h.state h.stands);
        there = λ lt _. absurd (omega (arith, length-map ts (λ x. x.code)));
        at_end = λ z t said. f.1 t (end_says _ _ t s said);
      },
      f.0 ∙ ap wrong (sym (get_or_past (map (λ x. x.place) ts) i end (omega (arith, length-map ts (λ x. x.place))))),
    )
