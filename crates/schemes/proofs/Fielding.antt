-- The fields of a line, one on, and the numbers of a line that are kept.
use Rattle.std.proofs.Common.{◌≡◌, ℕ, ◌+◌, ◌-◌, ◌<◌, Bool, false, cond, leb, List, [], ◌∷◌, ◌++◌, length, get_or, take, drop, set, Ok, Err, Result, OnOk, OnErr, IsOk, sym, refl, ap, ◌∙◌, inl, inr, arith}
use Rattle.std.proofs.lemmas.Bool.{ne_eqb, cond-true, cond-false, cases_lt, lt-ltb, lt-leb, and_left}
use Rattle.std.proofs.lemmas.List.{get_or-take, take_all, take-append-le, length-take, length_push, length-append, length-drop, length-take-le, take_rest, drop-drop}
use Rattle.arrayvec.specs.ArrayVec.{ArrayVec}
use Rattle.cases.specs.Book.{Book}
use Rattle.lines.specs.declared.kind.Kind.{Kind}
use Rattle.lines.specs.declared.kind.Kind.TheVariants.{Table, Life, Withdraw, Rate, Start, Fail, YearEnd, Close, Benefit}
use Rattle.lines.specs.Pieces.{fields}
use Rattle.lines.proofs.Cutting.{pieces-some}
use Rattle.refusals.specs.declared.Refusal.TheVariants.{Line, Counts}
use Rattle.schemes.specs.declared.shape.Shape.TheVariants.{Amount, UpTo}
use Rattle.schemes.specs.declared.fault.Fault.TheVariants.{At}
use Rattle.schemes.specs.Most.{most, year_count}
use Rattle.schemes.specs.Syntax.{counted, shape, life_shape, read, reads, by_read, first_field, given, amount, clauses_text}
use Rattle.schemes.specs.Places.{placed}
use Rattle.schemes.specs.declared.fault.Fault.{Fault}
use Rattle.schemes.specs.Enrolment.{enrolled, enrolled_by, basis, joined, at_begin}
use Rattle.schemes.specs.Counts.{put, appended}
use Rattle.lives.specs.Tables.{falls, fairly}

-- the fields with their places, read after those that gave the numbers so far
abbrev pub reads_at : Kind → List ℕ → List (ℕ × List ℕ) → Result (List ℕ) Fault
reads_at k sofar [] = Ok sofar
reads_at k sofar (x ∷ xs) = by_read (read (shape k (length sofar) (get_or sofar 1 0)) x.0 x.1) (λ n. reads_at k (sofar ++ (n ∷ [])) xs)

by_same : (x : Result ℕ Fault) (f g : ℕ → Result (List ℕ) Fault) → ((n : ℕ) → f n ≡ g n) → by_read x f ≡ by_read x g
by_same (Ok n) f g e = e n
by_same (Err why) f g e = refl

pub reads_placed : (k : Kind) (sofar : List ℕ) (place : ℕ) (fs : List (List ℕ)) → reads_at k sofar (placed place fs) ≡ reads k sofar place fs
reads_placed k sofar place [] = refl
reads_placed k sofar place (f ∷ fs) = by_same (read (shape k (length sofar) (get_or sofar 1 0)) place f) _ _ (λ n. reads_placed k (sofar ++ (n ∷ [])) (place + length f + 1) fs)

pub reads_more : (k : Kind) (sofar : List ℕ) (x : ℕ × List ℕ) (xs : List (ℕ × List ℕ)) (n : ℕ) → read (shape k (length sofar) (get_or sofar 1 0)) x.0 x.1 ≡ Ok n → reads_at k sofar (x ∷ xs) ≡ reads_at k (sofar ++ (n ∷ [])) xs
reads_more k sofar x xs n e = ap (λ r. by_read r (λ m. reads_at k (sofar ++ (m ∷ [])) xs)) e

pub reads_not : (k : Kind) (sofar : List ℕ) (x : ℕ × List ℕ) (xs : List (ℕ × List ℕ)) (why : Fault) → read (shape k (length sofar) (get_or sofar 1 0)) x.0 x.1 ≡ Err why → reads_at k sofar (x ∷ xs) ≡ Err why
reads_not k sofar x xs why e = ap (λ r. by_read r (λ m. reads_at k (sofar ++ (m ∷ [])) xs)) e

-- how a field is read after many others does not go by their number
life_late : (n b : ℕ) → 4 < n → life_shape n b ≡ UpTo 1000000
life_late n b h = rw (ne_eqb n 0 (omega arith), ne_eqb n 1 (omega arith), ne_eqb n 2 (omega arith), ne_eqb n 3 (omega arith), ne_eqb n 4 (omega arith)) refl

late : (k : Kind) (m n b c : ℕ) → 4 < m → 4 < n → shape k m b ≡ shape k n c
late Table m n b c h g = rw (ne_eqb m 0 (omega arith), ne_eqb n 0 (omega arith)) refl
late Life m n b c h g = life_late m b h ∙ sym (life_late n c g)
late Withdraw m n b c h g = refl
late Rate m n b c h g = refl
late Start m n b c h g = refl
late Fail m n b c h g = refl
late YearEnd m n b c h g = refl
late Close m n b c h g = refl
late Benefit m n b c h g = refl

-- the numbers that are kept say how the next field is read
pub shape_kept : (k : Kind) (ns : List ℕ) → shape k (length (take most ns)) (get_or (take most ns) 1 0) ≡ shape k (length ns) (get_or ns 1 0)
shape_kept k ns =
    elim (cases_lt (length ns) (most + 1)) [
      | inl h ↦ ap (λ ms. shape k (length ms) (get_or ms 1 0)) (take_all most ns (omega arith))
      | inr h ↦ late k (length (take most ns)) (length ns) (get_or (take most ns) 1 0) (get_or ns 1 0) (omega (arith, length-take-le most ns (omega arith))) (omega arith)
    ]

-- pushing onto the first most is pushing, as far as the first most go
pushed_in : (all : List ℕ) (n : ℕ) → length (take most all) < most → take most all ++ (n ∷ []) ≡ take most (all ++ (n ∷ []))
pushed_in all n h =
    let short : length all < most = omega (arith, length-take most all) in
    ap (λ ms. ms ++ (n ∷ [])) (take_all most all (omega arith)) ∙ sym (take_all most (all ++ (n ∷ [])) (omega (arith, length_push all n)))

pushed_past : (all : List ℕ) (n : ℕ) → length (take most all) ≡ most → take most all ≡ take most (all ++ (n ∷ []))
pushed_past all n h = sym (take-append-le most all (n ∷ []) (omega (arith, length-take most all)))

pub pushed : {U E : Type 0} (all : List ℕ) (n : ℕ) (old new : ArrayVec ℕ) (r : Result U E) → old.items ≡ take most all → OnOk r (new.items ≡ old.items ++ (n ∷ [])) → OnErr r (new ≡ old) → (IsOk r → length old.items < most) → OnErr r (length old.items ≡ most) → new.items ≡ take most (all ++ (n ∷ []))
pushed all n old new (Ok u) e more same room full = more ∙ ap (λ xs. xs ++ (n ∷ [])) e ∙ pushed_in all n (omega (arith, room refl, ap length e))
pushed all n old new (Err why) e more same room full = ap (λ v. v.items) same ∙ e ∙ pushed_past all n (omega (arith, full, ap length e))

long : (xs ys : List ℕ) → year_count < length ys → fairly (xs ++ ys) ≡ false
long xs ys h = and_left (leb (length (xs ++ ys)) year_count) (falls 1000000 (xs ++ ys)) (lt-leb (length (xs ++ ys)) year_count (omega (arith, length-append xs ys)))

-- the first numbers decide what a table's line does: with more, the table has too many counts
pub put-take : (ns : List ℕ) (ts : List (List ℕ)) → put (get_or (take most ns) 0 0) (get_or ts (get_or (take most ns) 0 0) [] ++ drop 1 (take most ns)) ts ≡ put (get_or ns 0 0) (get_or ts (get_or ns 0 0) [] ++ drop 1 ns) ts
put-take ns ts =
    elim (cases_lt (length ns) (most + 1)) [
      | inl h ↦ ap (λ ms. put (get_or ms 0 0) (get_or ts (get_or ms 0 0) [] ++ drop 1 ms) ts) (take_all most ns (omega arith))
      | inr h ↦
          cond-false _ _ _ (long (get_or ts (get_or (take most ns) 0 0) []) (drop 1 (take most ns)) (omega (arith, length-drop 1 (take most ns), length-take-le most ns (omega arith))))
          ∙ sym (cond-false _ _ _ (long (get_or ts (get_or ns 0 0) []) (drop 1 ns) (omega (arith, length-drop 1 ns))))
    ]

-- a line of a life uses six numbers
pub enrolled-take : (ns : List ℕ) (ts : List (List ℕ)) (b : Book) → enrolled_by (take most ns) ts b ≡ enrolled_by ns ts b
enrolled-take ns ts b =
    let e = get_or-take most ns 0 0 (omega arith) in
    let e1 = get_or-take most ns 1 0 (omega arith) in
    let e2 = get_or-take most ns 2 0 (omega arith) in
    let e3 = get_or-take most ns 3 0 (omega arith) in
    let e4 = get_or-take most ns 4 0 (omega arith) in
    let e5 = get_or-take most ns 5 0 (omega arith) in
    (λ j. enrolled (basis (e1 j) (e2 j) (e3 j) ts) (e j) (e4 j) (e5 j) b)

-- a benefit's line with an amount and clauses
pub amount_is : (rest f a : List ℕ) → fields rest ≡ f ∷ fields a → 0 < length a → amount rest ≡ read Amount 2 f
amount_is rest f [] e h = absurd (omega arith)
amount_is rest f (c ∷ cs) e h =
    ap (λ fs. cond (counted Benefit (length fs)) (read Amount 2 (first_field fs)) (Err (At 0 Line))) e
    ∙ cond-true _ _ _ (lt-ltb 1 (length (f ∷ fields (c ∷ cs))) (omega (arith, pieces-some 32 cs)))

pub clauses_is : (rest f a text : List ℕ) → fields rest ≡ f ∷ fields a → a ≡ drop (length f + 1) rest → text ≡ take (length a - 1) (drop 1 a) → text ≡ clauses_text rest
clauses_is rest f a text e d t =
    t ∙ take_rest a 1 ∙ ap (drop 1) d ∙ drop-drop 1 (length f + 1) rest ∙ ap (λ n. drop n rest) (omega arith) ∙ sym (ap (λ fs. drop (length (first_field fs) + 2) rest) e)

-- what a table's line does, from the numbers that are kept of it
pub appended_is : (rest : List ℕ) (ts : List (List ℕ)) (all ns : List ℕ) (i : ℕ) (more : List ℕ) (fair : Bool) → given Table rest ≡ Ok all → ns ≡ take most all → i ≡ get_or ns 0 0 → more ≡ drop 1 ns → fair ≡ fairly (get_or ts i [] ++ more)
    → appended rest ts ≡ cond fair (Ok (set ts i (get_or ts i [] ++ more))) (Err (At 0 Counts))
appended_is rest ts all ns i more fair g k e d f =
    ap (λ r. by_read r (λ ms. put (get_or ms 0 0) (get_or ts (get_or ms 0 0) [] ++ drop 1 ms) ts)) g
    ∙ sym (put-take all ts) ∙ ap (λ ms. put (get_or ms 0 0) (get_or ts (get_or ms 0 0) [] ++ drop 1 ms) ts) (sym k)
    ∙ (λ j. put (sym e j) (get_or ts (sym e j) [] ++ sym d j) ts)
    ∙ ap (λ b. cond b (Ok (set ts i (get_or ts i [] ++ more))) (Err (At 0 Counts))) (sym f)

-- what a life's line does, from the numbers that are kept of it
pub joined_is : (rest : List ℕ) (ts : List (List ℕ)) (b : Book) (all ns : List ℕ) → given Life rest ≡ Ok all → ns ≡ take most all → joined rest ts b ≡ at_begin (enrolled_by ns ts b)
joined_is rest ts b all ns g k =
    ap (λ r. by_read r (λ ms. at_begin (enrolled_by ms ts b))) g ∙ ap at_begin (sym (enrolled-take all ts b) ∙ ap (λ ms. enrolled_by ms ts b) (sym k))
