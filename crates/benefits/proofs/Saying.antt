-- Clauses one after another, and what they pay together.
use Rattle.std.proofs.Common.{◌≡◌, ℕ, ◌+◌, ◌*◌, ◌<◌, ◌≤◌, ◌&&◌, leb, List, [], ◌∷◌, ◌++◌, length, get_or, replicate, Some, None, Ok, Err, Option, Result, sym, refl, ap, ◌∙◌, subst, ⊎_elim, append_assoc, append-nil, arith, length-append}
use lib.Bits.{bit_or}
use Rattle.std.proofs.lemmas.List.{get_or_past, get_or-replicate}
use Rattle.std.proofs.lemmas.List.Sums.{fold_push, sum_by_push, sum_by-cons}
use Rattle.std.proofs.lemmas.Bool.{cases_lt, cond_both, and_parts, leb-true}
use Rattle.patterns.specs.Seats.{patterns}
use Rattle.expressions.specs.Answers.{yes}
use Rattle.writing.specs.Numbers.{numbered, well_written, read_on}
use Rattle.tokens.specs.declared.classes.Class.TheVariants.{Digit}
use Rattle.tokens.specs.Classes.{run_at}
use Rattle.tokens.specs.declared.faults.Numbered.{Numbered}
use Rattle.benefits.specs.declared.clauses.Clause.{Clause}
use Rattle.benefits.specs.declared.faults.PartFault.{PartFault}
use Rattle.benefits.specs.Clauses.{ClauseVerdict, share_at, share_in, share_of, positive, paid, total, named_by}
use Rattle.benefits.specs.Carried.{in_clause}
use Rattle.benefits.specs.Reads.{Say, reach, Added, Faulty}

say_push : (ts : List (List ℕ)) (cs : List Clause) (t : List ℕ) (c : Clause) (p a : ℕ) → Say ts cs p a → ClauseVerdict (share_of t) (Ok c) 0 t p a → Say (ts ++ t ∷ []) (cs ++ c ∷ []) p a
say_push [] [] t c p a h k = (k, tt)
say_push [] (d ∷ cs) t c p a h k = absurd h
say_push (s ∷ ts) [] t c p a h k = absurd h
say_push (s ∷ ts) (d ∷ cs) t c p a h k = (h.0, say_push ts cs t c p a h.1 k)

reach-push : (ts : List (List ℕ)) (t : List ℕ) → reach (ts ++ t ∷ []) ≡ reach ts + length t + 1
reach-push [] t = omega arith
reach-push (s ∷ ts) t = omega (arith, reach-push ts t)

-- a clause that reads does so wherever it begins
anywhere : (o : Option ℕ) (c : Clause) (at : ℕ) (t : List ℕ) (p a : ℕ) → ClauseVerdict o (Ok c) at t p a → ClauseVerdict o (Ok c) 0 t p a
anywhere None c at t p a h = let z : ◌≡◌ {A = ℕ} 0 1 = cc in absurd (omega arith)
anywhere (Some n) c at t p a h = h

abbrev Most : Option ℕ → Type 0
Most None = Unit {0}
Most (Some n) = n ≤ 20

positive-most : (o : Option ℕ) → Most o → Most (positive o)
positive-most None h = tt
positive-most (Some n) h = cond_both (lib.Dec.eqb n 0) None (Some n) Most (λ e. tt) (λ e. h)

share-most : (field : List ℕ) → Most (share_in field)
share-most field =
    let v = read_on 0 field in
    positive-most (numbered 20 field) (cond_both (well_written field && leb v 20) (Some v) None Most (λ e. leb-true v 20 (and_parts (well_written field) (leb v 20) e).1) (λ e. tt))

verdict_most : (o : Option ℕ) (c : Clause) (t : List ℕ) (p a : ℕ) → Most o → ClauseVerdict o (Ok c) 0 t p a → c.share ≤ 20
verdict_most None c t p a m h = let z : ◌≡◌ {A = ℕ} 0 1 = cc in absurd (omega arith)
verdict_most (Some n) c t p a m h = omega (arith, h.0)

paid-most : (c : Clause) (q : ℕ) → paid c q ≤ c.share
paid-most c q = cond_both (yes c.reading q) c.share 0 (λ n. n ≤ c.share) (λ e. omega arith) (λ e. omega arith)

total-most : (ts : List (List ℕ)) (cs : List Clause) (p a q : ℕ) → Say ts cs p a → total cs q ≤ 20 * length ts
total-most [] [] p a q h = omega arith
total-most [] (c ∷ cs) p a q h = absurd h
total-most (t ∷ ts) [] p a q h = absurd h
total-most (t ∷ ts) (c ∷ cs) p a q h =
    omega (arith, sum_by-cons (λ d. paid d q) c cs, total-most ts cs p a q h.1, paid-most c q, verdict_most (share_of t) c t p a (share-most (run_at t (share_at t) Digit)) h.0)

-- how far the clauses have been read, and which are left
pub record Sofar (texts later : List (List ℕ)) (at number named : ℕ) (twentieths : List ℕ) (p a : ℕ) : Type 0 where
  pub before : List (List ℕ)
  pub clauses : List Clause
  pub parts : texts ≡ before ++ later
  pub said : Say before clauses p a
  pub numbered : number ≡ length before + 1
  pub reached : at ≡ reach before
  pub names : named ≡ named_by clauses
  pub long : length twentieths ≡ patterns
  pub pays : (q : ℕ) → q < patterns → get_or twentieths q 0 ≡ total clauses q

module _ {texts later : List (List ℕ)} {at number named : ℕ} {twentieths : List ℕ} {p a : ℕ} where
  pub few_paid : Sofar texts later at number named twentieths p a → length texts ≤ 8 → (q : ℕ) → get_or twentieths q 0 ≤ 160
  few_paid s few q =
      let fewer : length s.before ≤ 8 = omega (arith, ap length s.parts, length-append s.before later) in
      ⊎_elim (λ (h : q < patterns). omega (arith, s.pays q h, total-most s.before s.clauses p a q s.said)) (λ (h : patterns ≤ q). omega (arith, get_or_past twentieths q 0 (omega (arith, s.long)))) (cases_lt q patterns)

  pub one_more : (s : Sofar texts later at number named twentieths p a) (t : List ℕ) (ts : List (List ℕ)) (c : Clause) (at' number' named' : ℕ) (twentieths' : List ℕ)
      → later ≡ t ∷ ts → at' ≡ at + length t + 1 → number' ≡ number + 1 → ClauseVerdict (share_of t) (Ok c) at t p a
      → named' ≡ bit_or named c.reading.named → length twentieths' ≡ patterns → ((q : ℕ) → q < patterns → get_or twentieths' q 0 ≡ get_or twentieths q 0 + paid c q)
      → Sofar texts ts at' number' named' twentieths' p a
  one_more s t ts c at' number' named' twentieths' parted next count verdict names long pays = record {
    before = s.before ++ t ∷ [];
    clauses = s.clauses ++ c ∷ [];
    parts = s.parts ∙ ap (λ l. s.before ++ l) parted ∙ sym (append_assoc s.before (t ∷ []) ts);
    said = say_push s.before s.clauses t c p a s.said (anywhere (share_of t) c at t p a verdict);
    numbered = omega (arith, count, s.numbered, length-append s.before (t ∷ []));
    reached = omega (arith, s.reached, reach-push s.before t);
    names = names ∙ ap (λ n. bit_or n c.reading.named) s.names ∙ sym (fold_push (λ n d. bit_or n d.reading.named) 0 s.clauses c);
    long = long;
    pays = λ q h. omega (arith, pays q h, s.pays q h, sum_by_push (λ d. paid d q) s.clauses c);
  }

  -- no clause is left
  pub all_read : Sofar texts later at number named twentieths p a → later ≡ [] → Added (record { named = named; twentieths = twentieths }) texts p a
  all_read s none = record {
    clauses = s.clauses;
    said = subst (λ ts. Say ts s.clauses p a) (sym (s.parts ∙ ap (λ l. s.before ++ l) none ∙ append-nil s.before)) s.said;
    names = s.names;
    long = s.long;
    pays = s.pays;
  }

  -- the next clause cannot be read
  pub no_more : Sofar texts later at number named twentieths p a → (t : List ℕ) (ts : List (List ℕ)) (f : PartFault) → later ≡ t ∷ ts → ClauseVerdict (share_of t) (Err f) at t p a → Faulty (in_clause number f) texts p a
  no_more s t ts f parted verdict = record {
    before = s.before;
    clauses = s.clauses;
    text = t;
    later = ts;
    parts = s.parts ∙ ap (λ l. s.before ++ l) parted;
    said = s.said;
    numbered = s.numbered;
    wrong = subst (λ k. ClauseVerdict (share_of t) (Err f) k t p a) s.reached verdict;
  }

-- nothing is read yet
pub none_read : (texts : List (List ℕ)) (p a : ℕ) → Sofar texts texts 0 1 0 (replicate patterns 0) p a
none_read texts p a = record {
  before = [];
  clauses = [];
  parts = refl;
  said = tt;
  numbered = refl;
  reached = refl;
  names = refl;
  long = refl;
  pays = λ q h. get_or-replicate patterns q 0 0 h;
}

abbrev pub Paired : {T F : Type 0} → Result T F → ℕ → Result T (Numbered F) → Type 0
Paired r n s = elim r [ Ok x ↦ s ≡ Ok x | Err e ↦ s ≡ Err (record { number = n; fault = e }) ]

-- what a number was added to
pub paired_ok : {T F : Type 0} (r : Result T F) (n : ℕ) (s : Result T (Numbered F)) (x : T) → Paired r n s → s ≡ Ok x → r ≡ Ok x
paired_ok (Ok y) n s x h e = let same : y ≡ x = cc in ap Ok same
paired_ok (Err f) n s x h e = let z : ◌≡◌ {A = ℕ} 0 1 = cc in absurd (omega arith)

pub paired_err : {T F : Type 0} (r : Result T F) (n : ℕ) (s : Result T (Numbered F)) (e : Numbered F) → Paired r n s → s ≡ Err e → (f : F) × (r ≡ Err f) × (e ≡ record { number = n; fault = f })
paired_err (Ok y) n s e h k = let z : ◌≡◌ {A = ℕ} 0 1 = cc in absurd (omega arith)
paired_err (Err f) n s e h k = (f, refl, cc)

-- a verdict on what is known to be the same
pub verdict_moved : (at : ℕ) (t : List ℕ) {p q a b : ℕ} {r s : Result Clause PartFault} → p ≡ q → a ≡ b → r ≡ s → ClauseVerdict (share_of t) r at t p a → ClauseVerdict (share_of t) s at t q b
verdict_moved at t {p} {q} {a} {b} {r} {s} wide room is h =
    subst (λ k. ClauseVerdict (share_of t) s at t q k) room (subst (λ k. ClauseVerdict (share_of t) s at t k a) wide (subst (λ x. ClauseVerdict (share_of t) x at t p a) is h))
