-- The fields of each kind of line.
use Rattle.std.specs.Prelude.{◌≡◌, ℕ, ◌+◌, ◌-◌, Bool, cond, ◌&&◌, List, [], ◌∷◌, ◌++◌, length, drop, Some, None, Ok, Err, Option, Result, MatchResult, ◌==◌, nat_le, nat_lt, slice_index}
use Rattle.std.specs.Option.{ok_or}
use Rattle.refusals.specs.declared.Refusal.TheVariants.{Number, NoSeat, Line}
use Rattle.patterns.specs.Seats.{seats}
use Rattle.writing.specs.Numbers.{numbered}
use Rattle.benefits.specs.Clauses.{positive}
use Rattle.writing.specs.Printed.{spaced}
use Rattle.lines.specs.declared.kind.Kind.{Kind}
use Rattle.lines.specs.declared.kind.Kind.TheVariants.{Table, Life, Withdraw, Rate, Start, Fail, YearEnd, Close, Benefit}
use Rattle.lines.specs.Pieces.{fields}
use Rattle.schemes.specs.declared.fault.Fault.{Fault}
use Rattle.schemes.specs.declared.fault.Fault.TheVariants.{At}
use Rattle.schemes.specs.declared.shape.Shape.{Shape}
use Rattle.schemes.specs.declared.shape.Shape.TheVariants.{Seat, Basis, UpTo, Amount}

-- how many fields a line has
abbrev pub counted : Kind → ℕ → Bool
counted Table n = nat_lt 1 n
counted Life n = n == 6
counted Withdraw n = n == 1
counted Rate n = n == 1
counted Start n = n == 0
counted Fail n = n == 1
counted YearEnd n = n == 0
counted Close n = n == 0
counted Benefit n = nat_lt 1 n

-- L seat kind x y aged factor: the limits of x and y go by the kind
abbrev pub life_shape : ℕ → ℕ → Shape
life_shape n basis =
    cond (n == 0) Seat
    (cond (n == 1) Basis
    (cond (n == 2) (UpTo (cond (basis == 97) 3 1000000))
    (cond (n == 3) (UpTo (cond (basis == 97) 0 1000000))
    (cond (n == 4) (UpTo 121) (UpTo 1000000)))))

-- how the field after n others is read; basis is the byte of the kind of life, once it is read
abbrev pub shape : Kind → ℕ → ℕ → Shape
shape Table n basis = UpTo (cond (n == 0) 3 1000000)
shape Life n basis = life_shape n basis
shape Withdraw n basis = Seat
shape Rate n basis = UpTo 10000
shape Start n basis = UpTo 1000000
shape Fail n basis = Seat
shape YearEnd n basis = UpTo 1000000
shape Close n basis = UpTo 1000000
shape Benefit n basis = Amount

-- the byte of a field of one byte
abbrev pub only : List ℕ → ℕ
only [] = 0
only (c ∷ []) = c
only (c ∷ d ∷ ds) = 0

-- the seat of a letter, from A on
abbrev pub seated : ℕ → Option ℕ
seated c = cond (nat_le 65 c && nat_lt (c - 65) seats) (Some (c - 65)) None

-- the byte of a basis: a for a table of counts, m for a step
abbrev pub based : ℕ → Option ℕ
based c = cond (c == 97) (Some 97) (cond (c == 109) (Some 109) None)

-- the number that a field gives, the field beginning at a place; what is no number is blamed there
abbrev pub read : Shape → ℕ → List ℕ → Result ℕ Fault
read Seat place f = ok_or (seated (only f)) (At 0 NoSeat)
read Basis place f = ok_or (based (only f)) (At place Number)
read (UpTo limit) place f = ok_or (numbered limit f) (At place Number)
read Amount place f = ok_or (positive (numbered 500000000 f)) (At place Number)

-- what is done with the numbers of a line, unless a field is refused
abbrev pub by_read : {X Y : Type 0} → Result X Fault → (X → Result Y Fault) → Result Y Fault
by_read (Ok x) next = next x
by_read (Err e) next = Err e

-- the fields left to right, after those that gave the numbers so far
abbrev pub reads : Kind → List ℕ → ℕ → List (List ℕ) → Result (List ℕ) Fault
reads k sofar place [] = Ok sofar
reads k sofar place (f ∷ fs) = by_read (read (shape k (length sofar) (slice_index sofar 1)) place f) (λ n. reads k (sofar ++ (n ∷ [])) (place + length f + 1) fs)

-- the numbers of what follows a line's kind: as many fields as the kind has, then each field
abbrev pub given : Kind → List ℕ → Result (List ℕ) Fault
given k rest = cond (counted k (length (fields rest))) (reads k [] 2 (fields rest)) (Err (At 0 Line))

-- the number of a line that has one
abbrev pub one : Kind → List ℕ → Result ℕ Fault
one k rest = by_read (given k rest) (λ ns. Ok (slice_index ns 0))

-- a line that has no fields
abbrev pub none : Kind → List ℕ → Result (Unit {0}) Fault
none k rest = by_read (given k rest) (λ ns. Ok tt)

-- the first field
abbrev pub first_field : List (List ℕ) → List ℕ
first_field [] = []
first_field (f ∷ fs) = f

-- where the clauses begin in the line
abbrev pub clauses_place : List ℕ → ℕ
clauses_place rest = length (first_field (fields rest)) + 3

-- the text of the clauses
abbrev pub clauses_text : List ℕ → List ℕ
clauses_text rest = drop (length (first_field (fields rest)) + 2) rest

-- B amount clauses: the amount, if clauses follow it
abbrev pub amount : List ℕ → Result ℕ Fault
amount rest = cond (counted Benefit (length (fields rest))) (read Amount 2 (first_field (fields rest))) (Err (At 0 Line))

-- fields that give numbers: each is read after those before it
pub data Gives (k : Kind) : List (List ℕ) → List ℕ → Type 0 where
  no_more : Gives k [] []
  and_more : (fs : List (List ℕ)) (ns : List ℕ) (place : ℕ) (f : List ℕ) (n : ℕ) → Gives k fs ns → read (shape k (length ns) (slice_index ns 1)) place f ≡ Ok n → Gives k (fs ++ (f ∷ [])) (ns ++ (n ∷ []))

-- the first field that is refused, read where it begins
pub record Refuses (k : Kind) (fs : List (List ℕ)) (e : Fault) : Type 0 where
  pub before : List (List ℕ)
  pub field : List ℕ
  pub rest : List (List ℕ)
  pub ns : List ℕ
  pub parts : fs ≡ before ++ (field ∷ rest)
  pub given : Gives k before ns
  pub refused : read (shape k (length ns) (slice_index ns 1)) (2 + length (spaced before)) field ≡ Err e

-- fields read left to right give their numbers, or the first that is refused
abbrev pub ReadsStand : Type 0
ReadsStand = (k : Kind) (fs : List (List ℕ)) → MatchResult (reads k [] 2 fs) (λ ns. Gives k fs ns) (λ e. Refuses k fs e)
