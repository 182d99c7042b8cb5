-- What clauses pay depends only on the seats that they name.
use Rattle.std.proofs.Common.{◌≡◌, ℕ, ◌<◌, cond, List, [], ◌∷◌, get_or, Some, None, Ok, fold, Option, sym, refl, ap, ◌∙◌, arith, lit<}
use lib.Bits.{bit_and, bit_or, and_comm, and_le_l, and_self, or_comm, or_lt}
use Rattle.std.specs.List.{AllByRecursion}
use Rattle.std.proofs.lemmas.List.Sums.{sum_by-cons}
use Rattle.std.proofs.lemmas.Nat.{and_assoc}
use Rattle.patterns.specs.Seats.{seats, patterns}
use Rattle.expressions.specs.declared.Reading.{Reading}
use Rattle.expressions.specs.Answers.{yes}
use Rattle.expressions.proofs.Owning.{Own, answered_own}
use Rattle.expressions.proofs.Sets.{Within, within_more}
use Rattle.benefits.specs.declared.clauses.Clause.{Clause}
use Rattle.benefits.specs.declared.sums.Sums.{Sums}
use Rattle.benefits.specs.Clauses.{ClauseVerdict, share_of, expression_of, paid, total, named_by}
use Rattle.benefits.specs.Reads.{Say, Added}

-- the seats that clauses name, with those of n
abbrev named_from : ℕ → List Clause → ℕ
named_from n cs = fold (λ m c. bit_or m c.reading.named) n cs

within-named : (s n : ℕ) (cs : List Clause) → Within s n → Within s (named_from n cs)
within-named s n [] h = h
within-named s n (c ∷ cs) h = within-named s (bit_or n c.reading.named) cs (within_more s n c.reading.named h)

within_own : (n s : ℕ) → Within s (bit_or n s)
within_own n s = ap (bit_and s) (or_comm n s) ∙ within_more s s n (and_self s)

each_named : (n : ℕ) (cs : List Clause) → AllByRecursion (λ c. Within c.reading.named (named_from n cs)) cs
each_named n [] = tt
each_named n (c ∷ cs) = (within-named c.reading.named (bit_or n c.reading.named) cs (within_own n c.reading.named), each_named (bit_or n c.reading.named) cs)

verdict_own : (o : Option ℕ) (c : Clause) (t : List ℕ) (p a : ℕ) → ClauseVerdict o (Ok c) 0 t p a → Own c.reading
verdict_own None c t p a h = let z : ◌≡◌ {A = ℕ} 0 1 = cc in absurd (omega arith)
verdict_own (Some n) c t p a h = answered_own (Ok c.reading) (expression_of t) p a h.1

all_own : (ts : List (List ℕ)) (cs : List Clause) (p a : ℕ) → Say ts cs p a → AllByRecursion (λ c. Own c.reading) cs
all_own [] [] p a h = tt
all_own [] (c ∷ cs) p a h = absurd h
all_own (t ∷ ts) [] p a h = absurd h
all_own (t ∷ ts) (c ∷ cs) p a h = (verdict_own (share_of t) c t p a h.0, all_own ts cs p a h.1)

small_named : (n : ℕ) (cs : List Clause) → n < patterns → AllByRecursion (λ c. Own c.reading) cs → named_from n cs < patterns
small_named n [] h own = h
small_named n (c ∷ cs) h own = small_named (bit_or n c.reading.named) cs (or_lt seats n c.reading.named h own.0.few) own.1

-- a reading answers in a pattern as in its part within n, where n has the named seats
yes_own : (x : Reading) (q n : ℕ) → q < patterns → Own x → Within x.named n → yes x q ≡ yes x (bit_and q n)
yes_own x q n lt own h =
    let part : bit_and (bit_and q n) x.named ≡ bit_and q x.named = and_assoc x.named q n ∙ ap (bit_and q) (and_comm n x.named ∙ h) in
    own.own q lt ∙ ap (yes x) (sym part) ∙ sym (own.own (bit_and q n) (omega (arith, and_le_l q n)))

total_own : (cs : List Clause) (q n : ℕ) → q < patterns → AllByRecursion (λ c. Own c.reading) cs → AllByRecursion (λ c. Within c.reading.named n) cs → total cs q ≡ total cs (bit_and q n)
total_own [] q n lt own within = refl
total_own (c ∷ cs) q n lt own within =
    let here : paid c q ≡ paid c (bit_and q n) = ap (λ b. cond b c.share 0) (yes_own c.reading q n lt own.0 within.0) in
    omega (arith, sum_by-cons (λ d. paid d q) c cs, sum_by-cons (λ d. paid d (bit_and q n)) c cs, here, total_own cs q n lt own.1 within.1)

module _ {s : Sums} {ts : List (List ℕ)} {p a : ℕ} (h : Added s ts p a) where
  pub few_named : s.named < patterns
  few_named = omega (arith, h.names, small_named 0 h.clauses (lit< tt) (all_own ts h.clauses p a h.said))

  -- the shares that are added up depend only on the named seats
  pub added_own : (q : ℕ) → q < patterns → get_or s.twentieths q 0 ≡ get_or s.twentieths (bit_and q s.named) 0
  added_own q lt =
      h.pays q lt
      ∙ total_own h.clauses q (named_by h.clauses) lt (all_own ts h.clauses p a h.said) (each_named 0 h.clauses)
      ∙ ap (λ n. total h.clauses (bit_and q n)) (sym h.names)
      ∙ sym (h.pays (bit_and q s.named) (omega (arith, and_le_l q s.named)))
