-- How a text is parted into clauses.
use Rattle.std.proofs.Common.{◌≡◌, ℕ, ◌+◌, ◌≤◌, Bool, true, false, eqb, List, [], ◌∷◌, ◌++◌, length, get_or, cond, ap, ◌∙◌, subst, arith, length-append, MatchBool}
use Rattle.std.specs.List.{All, slice_split, IsFirstMatchOrLen}
use Rattle.std.proofs.lemmas.Grind.{common_steps}
use Rattle.std.proofs.lemmas.List.Splits.{slice_split_at, slice_split_none}
use Rattle.lines.specs.Pieces.{pieces}

-- the clauses that `split` has left
abbrev pub left : List ℕ → Bool → List (List ℕ)
left rest done = cond done [] (slice_split (λ b. eqb b 59) rest)

pub all_left : (text rest : List ℕ) (done : Bool) → rest ≡ text → done ≡ false → left rest done ≡ pieces 59 text
all_left text rest done is more = λ i. left (is i) (more i)

-- the part xs is the clause x and then the rest, or the last clause
abbrev pub Part : List ℕ → List ℕ → List ℕ → Bool → Type 0
Part xs x rest done = MatchBool done (xs ≡ x) ((y : ℕ) × (xs ≡ x ++ (y ∷ rest)))

pub next_left : (xs x rest : List ℕ) (was done : Bool) → was ≡ false → Part xs x rest done → IsFirstMatchOrLen (λ b. eqb b 59) xs (length x) → left xs was ≡ x ∷ left rest done
next_left xs x rest was true more e h = ap (left xs) more ∙ ap (slice_split (λ b. eqb b 59)) e ∙ slice_split_none (λ b. eqb b 59) x (λ k d l. subst (λ ys. eqb (get_or ys k d) 59 ≡ false) e (h.0 k d (omega arith) l))
next_left xs x rest was false more e h =
    let front : All (λ z. eqb z 59 ≡ false) x = λ k d l. let a = h.0 k d (omega arith) l in let b = e.1 in grind (arith, common_steps) in
    let hit : eqb e.0 59 ≡ true = let b = e.1 in let a = h.1 (grind (arith, common_steps)) e.0 in grind (arith, common_steps) in
    ap (left xs) more ∙ ap (slice_split (λ b. eqb b 59)) e.1 ∙ slice_split_at (λ b. eqb b 59) x e.0 rest front hit

pub part_within : (xs x rest : List ℕ) (done : Bool) → Part xs x rest done → length x ≤ length xs
part_within xs x rest true e = omega (arith, ap length e)
part_within xs x rest false e = omega (arith, ap length e.1, length-append x (e.0 ∷ rest))

pub part_long : (xs x rest : List ℕ) (done : Bool) → Part xs x rest done → done ≡ false → length x + 1 + length rest ≡ length xs
part_long xs x rest true e more = grind arith
part_long xs x rest false e more = omega (arith, ap length e.1, length-append x (e.0 ∷ rest))
