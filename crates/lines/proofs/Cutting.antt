-- Pieces, from where the first stop stands.
use Rattle.std.proofs.Common.{◌≡◌, ℕ, ◌+◌, ◌-◌, ◌<◌, eqb, List, [], ◌∷◌, length, ltb, Some, None, Option, take, drop, sym, refl, ap, ◌∙◌, arith}
use Rattle.std.specs.List.{AllByRecursion, onto_first, position, position_or_len}
use Rattle.std.specs.Option.{MatchOption, unwrap_or}
use Rattle.std.proofs.lemmas.List.Sums.{fails_before_first}
use Rattle.std.proofs.lemmas.List.Splits.{slice_split_first, slice_split_none, length-slice_split}
use Rattle.std.proofs.lemmas.Bool.{eqb-true, eqb-false, cond_both, ltb-true, ltb-false}
use Rattle.std.proofs.lemmas.List.{take_rest, drop_more, drop_all, take_all}
use Rattle.writing.specs.Printed.{spaced}
use Rattle.lines.specs.Pieces.{pieces, fields, FieldsStand}

-- an answer to where the first piece ends
abbrev pub Found : ℕ → List ℕ → Option ℕ → Type 0
Found stop bs r = MatchOption r (pieces stop bs ≡ bs ∷ []) (λ i. (i < length bs) × (pieces stop bs ≡ take i bs ∷ pieces stop (drop (i + 1) bs)))

-- it ends at the first stop
found_position : (stop : ℕ) (bs : List ℕ) → Found stop bs (position (λ b. eqb b stop) bs)
found_position stop bs =
    cond_both (ltb (position_or_len (λ b. eqb b stop) bs) (length bs)) (Some (position_or_len (λ b. eqb b stop) bs)) None (Found stop bs)
    (λ e. let l = ltb-true (position_or_len (λ b. eqb b stop) bs) (length bs) e in (l, slice_split_first (λ b. eqb b stop) bs 0 l))
    (λ e. slice_split_none (λ b. eqb b stop) bs (λ k d l. fails_before_first (λ b. eqb b stop) bs k d (omega (arith, ltb-false (position_or_len (λ b. eqb b stop) bs) (length bs) e))))

pub found : (stop : ℕ) (bs : List ℕ) (r : Option ℕ) → r ≡ position (λ b. eqb b stop) bs → Found stop bs r
found stop bs r e = rw e (found_position stop bs)

-- pieces are never none
pub pieces-some : (stop : ℕ) (bs : List ℕ) → 0 < length (pieces stop bs)
pieces-some stop bs = omega (arith, length-slice_split (λ b. eqb b stop) bs)

-- fields, written again
spaced-onto : (c : ℕ) (ps : List (List ℕ)) (cs : List ℕ) → spaced ps ≡ 32 ∷ cs → spaced (onto_first c ps) ≡ 32 ∷ (c ∷ cs)
spaced-onto c [] cs e = cc
spaced-onto c (p ∷ ps) cs e = cc

spaced-pieces : (bs : List ℕ) → spaced (pieces 32 bs) ≡ 32 ∷ bs
spaced-pieces [] = refl
spaced-pieces (c ∷ cs) =
    cond_both (eqb c 32) ([] ∷ pieces 32 cs) (onto_first c (pieces 32 cs)) (λ ps. spaced ps ≡ 32 ∷ (c ∷ cs))
    (λ e. let f = eqb-true c 32 e in let g = spaced-pieces cs in cc)
    (λ e. spaced-onto c (pieces 32 cs) cs (spaced-pieces cs))

abbrev Bare : List ℕ → Type 0
Bare f = AllByRecursion (λ c. c ≡ 32 → ⊥) f

bare_onto : (c : ℕ) (ps : List (List ℕ)) → (c ≡ 32 → ⊥) → AllByRecursion Bare ps → AllByRecursion Bare (onto_first c ps)
bare_onto c [] n h = ((n, tt), tt)
bare_onto c (p ∷ ps) n h = ((n, h.0), h.1)

bare_pieces : (bs : List ℕ) → AllByRecursion Bare (pieces 32 bs)
bare_pieces [] = (tt, tt)
bare_pieces (c ∷ cs) =
    cond_both (eqb c 32) ([] ∷ pieces 32 cs) (onto_first c (pieces 32 cs)) (AllByRecursion Bare)
    (λ e. (tt, bare_pieces cs)) (λ e. bare_onto c (pieces 32 cs) (eqb-false c 32 e) (bare_pieces cs))

pub fields_stand : FieldsStand
fields_stand [] o = (refl, tt)
fields_stand (c ∷ cs) o = (let g = spaced-pieces cs in cc, bare_pieces cs)

-- a field is cut off
pub fields_body : (rest : List ℕ) → 0 < length rest → fields rest ≡ pieces 32 (take (length rest - 1) (drop 1 rest))
fields_body [] h = absurd (omega arith)
fields_body (c ∷ cs) h = ap (pieces 32) (sym (take_rest (c ∷ cs) 1))

pub cut_off : (body f a : List ℕ) (r : Option ℕ) (n : ℕ) → Found 32 body r → n ≡ unwrap_or r (length body) → f ≡ take n body → a ≡ drop n body → pieces 32 body ≡ f ∷ fields a
cut_off body f a None n at e p q =
    let d = ap fields (q ∙ drop_all n body (omega arith)) in
    let t = take_all n body (omega arith) in cc
cut_off body f a (Some i) n at e p q =
    let l : n < length body = rw e at.0 in
    let d = ap fields (q ∙ drop_more body n 0 l) in cc
