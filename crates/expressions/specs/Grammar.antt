-- The grammar of expressions, as derivations over lists of tokens.
use Rattle.std.specs.Prelude.{◌≡◌, ℕ, List, [], ◌∷◌, ◌++◌, count_ones}
use Rattle.tokens.specs.declared.Code.{Code}
use Rattle.expressions.specs.declared.Group.{Group}
use Rattle.expressions.specs.declared.Group.TheVariants as kind
use Rattle.tokens.specs.declared.Code.TheVariants.{Or, And, Not, Joint, Last, Exactly, AtLeast, Letters, Digit, Open, Close, OpenSquare, CloseSquare}

-- What an expression says. A set of seats is a number.
pub data Tree : Type 0 where
  seat : ℕ → Tree
  group : Group → ℕ → Tree
  not : Tree → Tree
  and : Tree → Tree → Tree
  or : Tree → Tree → Tree

-- `ands a` is any number of "and" factor after a, and `ors a` any number of "or" term after a.
pub data Part : Type 0 where
  factor : Part
  ands : Tree → Part
  term : Part
  ors : Tree → Part
  expression : Part

-- Reads p ts us t: the part p stands at the front of ts, us is what follows it, and it says t.
pub data Reads : Part → List Code → List Code → Tree → Type 0 where
  a_letter : {s : ℕ} {us : List Code} → count_ones s ≡ 1 → Reads factor (Letters s ∷ us) us (seat s)
  a_joint : {s : ℕ} {us : List Code} → Reads factor (Joint ∷ OpenSquare ∷ Letters s ∷ CloseSquare ∷ us) us (group kind.Joint s)
  a_last : {s : ℕ} {us : List Code} → Reads factor (Last ∷ OpenSquare ∷ Letters s ∷ CloseSquare ∷ us) us (group kind.Last s)
  an_exactly : {d s : ℕ} {us : List Code} → Reads factor (Exactly ∷ Digit d ∷ OpenSquare ∷ Letters s ∷ CloseSquare ∷ us) us (group (kind.Exactly d) s)
  an_atleast : {d s : ℕ} {us : List Code} → Reads factor (AtLeast ∷ Digit d ∷ OpenSquare ∷ Letters s ∷ CloseSquare ∷ us) us (group (kind.AtLeast d) s)
  a_not : {ts us : List Code} {a : Tree} → Reads factor ts us a → Reads factor (Not ∷ ts) us (not a)
  a_paren : {ts us : List Code} {a : Tree} → Reads expression ts (Close ∷ us) a → Reads factor (Open ∷ ts) us a
  no_and : {a : Tree} {us : List Code} → Reads (ands a) us us a
  an_and : {a b t : Tree} {ts us vs : List Code} → Reads factor ts us b → Reads (ands (and a b)) us vs t → Reads (ands a) (And ∷ ts) vs t
  a_term : {a t : Tree} {ts us vs : List Code} → Reads factor ts us a → Reads (ands a) us vs t → Reads term ts vs t
  no_or : {a : Tree} {us : List Code} → Reads (ors a) us us a
  an_or : {a b t : Tree} {ts us vs : List Code} → Reads term ts us b → Reads (ors (or a b)) us vs t → Reads (ors a) (Or ∷ ts) vs t
  an_expression : {a t : Tree} {ts us vs : List Code} → Reads term ts us a → Reads (ors a) us vs t → Reads expression ts vs t

-- the whole of ts is an expression that says t
abbrev pub Says : List Code → Tree → Type 0
Says ts t = Reads expression ts [] t

-- some expression begins with ts
abbrev pub Viable : List Code → Type 0
Viable ts = (us : List Code) × (t : Tree) × Says (ts ++ us) t
