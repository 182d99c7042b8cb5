-- How many numbers a line gives, the first of a table's line, and the second of a life's.
use Rattle.std.proofs.Common.{◌≡◌, ℕ, ◌+◌, ◌<◌, ◌≤◌, true, ◌&&◌, eqb, leb, Option, Some, None, List, [], ◌∷◌, ◌++◌, length, get_or, take, Ok, Err, Result, IsOk, sym, refl, ap, ◌∙◌, subst, inl, inr, arith}
use Rattle.std.specs.Option.{ok_or}
use Rattle.std.proofs.Math.ListN.{get_or-append}
use Rattle.std.proofs.lemmas.Bool.{cases_Bool, and_parts, leb-true, ltb-true, eqb-true}
use Rattle.std.proofs.lemmas.List.{length_push, length-take, get_or-take}
use Rattle.std.proofs.lemmas.List.Splits.{length-slice_split}
use Rattle.std.proofs.lemmas.List.Sums.{count_by-le-length}
use Rattle.writing.specs.Numbers.{numbered, well_written, read_on}
use Rattle.lines.specs.declared.kind.Kind.{Kind}
use Rattle.lines.specs.declared.kind.Kind.TheVariants.{Table, Life}
use Rattle.lines.specs.Pieces.{fields}
use Rattle.refusals.specs.declared.Refusal.TheVariants.{Line, Number}
use Rattle.schemes.specs.declared.fault.Fault.{Fault}
use Rattle.schemes.specs.declared.fault.Fault.TheVariants.{At}
use Rattle.schemes.specs.Most.{most}
use Rattle.schemes.specs.Bases.{basis_of}
use Rattle.schemes.specs.Syntax.{counted, shape, only, based, read, reads, by_read, given}
use Rattle.schemes.specs.Places.{placed}

-- no more fields than bytes
pub fields-length : (rest : List ℕ) → length (fields rest) ≤ length rest
fields-length [] = omega arith
fields-length (c ∷ cs) = omega (arith, length-slice_split (λ b. eqb b 32) cs, count_by-le-length (λ b. eqb b 32) cs)

pub placed-length : (place : ℕ) (fs : List (List ℕ)) → length (placed place fs) ≡ length fs
placed-length place [] = refl
placed-length place (f ∷ fs) = omega (arith, placed-length (place + length f + 1) fs)

-- what was read first, where the whole is read
by_ok : {X Y : Type 0} (x : Result X Fault) (next : X → Result Y Fault) (y : Y) → by_read x next ≡ Ok y → (n : X) × (x ≡ Ok n) × (next n ≡ Ok y)
by_ok (Ok n) next y e = (n, refl, e)
by_ok (Err why) next y e = absurd cc

reads-length : (k : Kind) (sofar : List ℕ) (place : ℕ) (fs : List (List ℕ)) (all : List ℕ) → reads k sofar place fs ≡ Ok all → length all ≡ length sofar + length fs
reads-length k sofar place [] all e = let s : sofar ≡ all = cc in omega (arith, ap length s)
reads-length k sofar place (f ∷ fs) all e =
    let p = by_ok (read (shape k (length sofar) (get_or sofar 1 0)) place f) (λ n. reads k (sofar ++ (n ∷ [])) (place + length f + 1) fs) all e in
    omega (arith, reads-length k (sofar ++ (p.0 ∷ [])) (place + length f + 1) fs all p.2, length_push sofar p.0)

reads-kept : (k : Kind) (sofar : List ℕ) (place : ℕ) (fs : List (List ℕ)) (all : List ℕ) (i : ℕ) → i < length sofar → reads k sofar place fs ≡ Ok all → get_or all i 0 ≡ get_or sofar i 0
reads-kept k sofar place [] all i h e = let s : sofar ≡ all = cc in ap (λ (ns : List ℕ). get_or ns i 0) (sym s)
reads-kept k sofar place (f ∷ fs) all i h e =
    let p = by_ok (read (shape k (length sofar) (get_or sofar 1 0)) place f) (λ n. reads k (sofar ++ (n ∷ [])) (place + length f + 1) fs) all e in
    reads-kept k (sofar ++ (p.0 ∷ [])) (place + length f + 1) fs all i (omega (arith, length_push sofar p.0)) p.2 ∙ get_or-append sofar (p.0 ∷ []) 0 i h

-- a line that is read has as many fields as its kind, and they are read left to right
given-reads : (k : Kind) (rest all : List ℕ) → given k rest ≡ Ok all → (counted k (length (fields rest)) ≡ true) × (reads k [] 2 (fields rest) ≡ Ok all)
given-reads k rest all e =
    elim (cases_Bool (counted k (length (fields rest)))) [ inl h ↦ (h, rw h at e) | inr h ↦ (let f : Err (At 0 Line) ≡ Ok all = rw h at e in absurd cc) ]

pub given_counted : (k : Kind) (rest all : List ℕ) → given k rest ≡ Ok all → counted k (length all) ≡ true
given_counted k rest all e =
    let p = given-reads k rest all e in
    let n : length all ≡ length (fields rest) = omega (arith, reads-length k [] 2 (fields rest) all p.1) in
    ap (counted k) n ∙ p.0

-- a life's line has six numbers
pub six : (rest all ns : List ℕ) → given Life rest ≡ Ok all → ns ≡ take most all → length ns ≡ 6
six rest all ns e k = omega (arith, ap length k, length-take most all, eqb-true (length all) 6 (given_counted Life rest all e))

-- a table's line has a number at least
pub some : (rest all ns : List ℕ) → given Table rest ≡ Ok all → ns ≡ take most all → 0 < length ns
some rest all ns e k = omega (arith, ap length k, length-take most all, ltb-true 1 (length all) (given_counted Table rest all e))

within : (limit : ℕ) (f : List ℕ) (n : ℕ) → numbered limit f ≡ Some n → n ≤ limit
within limit f n e =
    elim (cases_Bool (well_written f && leb (read_on 0 f) limit)) [
      | inl h ↦ (let s : Some (read_on 0 f) ≡ Some n = rw h at e in let g : read_on 0 f ≡ n = cc in omega (arith, leb-true (read_on 0 f) limit (and_parts (well_written f) (leb (read_on 0 f) limit) h).1))
      | inr h ↦ (let s : None ≡ Some n = rw h at e in absurd cc)
    ]

some_from : (o : Option ℕ) (why : Fault) (n : ℕ) → ok_or o why ≡ Ok n → o ≡ Some n
some_from (Some x) why n e = let s : x ≡ n = cc in ap (λ m. Some m) s
some_from None why n e = absurd cc

first_within : (fs : List (List ℕ)) (all : List ℕ) → 1 < length fs → reads Table [] 2 fs ≡ Ok all → get_or all 0 0 ≤ 3
first_within [] all h e = omega arith
first_within (f ∷ fs) all h e =
    let p = by_ok (read (shape Table 0 0) 2 f) (λ n. reads Table (n ∷ []) (2 + length f + 1) fs) all e in
    omega (arith, reads-kept Table (p.0 ∷ []) (2 + length f + 1) fs all 0 (omega arith) p.2, within 3 f p.0 (some_from (numbered 3 f) (At 2 Number) p.0 p.1))

-- a table's line names one of the four tables
pub table_named : (rest all ns : List ℕ) → given Table rest ≡ Ok all → ns ≡ take most all → get_or ns 0 0 ≤ 3
table_named rest all ns e k =
    let p = given-reads Table rest all e in
    omega (arith, ap (λ (xs : List ℕ). get_or xs 0 0) k, get_or-take most all 0 0 (omega arith), first_within (fields rest) all (ltb-true 1 (length (fields rest)) p.0) p.1)

based_known : (c n : ℕ) → based c ≡ Some n → IsOk (basis_of n)
based_known c n e =
    elim (cases_Bool (eqb c 97)) [
      | inl h ↦ (let s : Some 97 ≡ Some n = rw h at e in let m : 97 ≡ n = cc in subst (λ (x : ℕ). IsOk (basis_of x)) m refl)
      | inr h ↦ elim (cases_Bool (eqb c 109)) [
        | inl g ↦ (let s : Some 109 ≡ Some n = rw (h, g) at e in let m : 109 ≡ n = cc in subst (λ (x : ℕ). IsOk (basis_of x)) m refl)
        | inr g ↦ (let s : None ≡ Some n = rw (h, g) at e in absurd cc)
      ]
    ]

second_based : (fs : List (List ℕ)) (all : List ℕ) → 1 < length fs → reads Life [] 2 fs ≡ Ok all → IsOk (basis_of (get_or all 1 0))
second_based [] all h e = absurd (omega arith)
second_based (f ∷ []) all h e = absurd (omega arith)
second_based (f ∷ g ∷ fs) all h e =
    let at = 2 + length f + 1 in
    let p = by_ok (read (shape Life 0 0) 2 f) (λ n. reads Life (n ∷ []) at (g ∷ fs)) all e in
    let q = by_ok (read (shape Life 1 0) at g) (λ n. reads Life (p.0 ∷ n ∷ []) (at + length g + 1) fs) all p.2 in
    subst (λ (x : ℕ). IsOk (basis_of x)) (sym (reads-kept Life (p.0 ∷ q.0 ∷ []) (at + length g + 1) fs all 1 (omega arith) q.2))
    (based_known (only g) q.0 (some_from (based (only g)) (At at Number) q.0 q.1))

-- a life's line names a basis
pub basis_named : (rest all ns : List ℕ) → given Life rest ≡ Ok all → ns ≡ take most all → IsOk (basis_of (get_or ns 1 0))
basis_named rest all ns e k =
    let p = given-reads Life rest all e in
    subst (λ (x : ℕ). IsOk (basis_of x)) (sym (ap (λ (xs : List ℕ). get_or xs 1 0) k ∙ get_or-take most all 1 0 (omega arith)))
    (second_based (fields rest) all (omega (arith, eqb-true (length (fields rest)) 6 p.0)) p.1)
