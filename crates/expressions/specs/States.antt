-- The states of the reader, and its steps from token to token. Only the reader's own functions cite this.
use Rattle.std.specs.Prelude.{◌≡◌, ℕ, List, ◌∷◌, count_ones}
use Rattle.tokens.specs.declared.Code.{Code}
use Rattle.expressions.specs.declared.Group.{Group}
use Rattle.expressions.specs.declared.Group.TheVariants as kind
use Rattle.expressions.specs.declared.Count.{Count}
use Rattle.expressions.specs.declared.Count.TheVariants.{Exact, Least}
use Rattle.tokens.specs.declared.Code.TheVariants as code
use Rattle.expressions.specs.Grammar.{Tree, Reads, seat, group, not, and, or, factor, ands, term, expression}
use Rattle.expressions.specs.Open.{Open, whole, inside, first, after_or, lone, after_and, after_not, After}

-- the group of a word and its digit
abbrev pub counted : Count → ℕ → Group
counted Exact d = kind.Exactly d
counted Least d = kind.AtLeast d

-- an operand is expected, or an operator after the term so far, or the rest of a group
pub data State : Type 0 where
  operand : Open factor → State
  operator : Open term → Tree → State
  digit : Count → Open factor → State
  square : Group → Open factor → State
  letters : Group → Open factor → State
  closing : Group → ℕ → Open factor → State

-- a factor is complete
abbrev pub settled : Open factor → Tree → State
settled (lone k) a = operator k a
settled (after_and c k) a = operator k (and c a)
settled (after_not k) a = settled k (not a)

-- a term is complete: the expression so far
abbrev pub joined : Open term → Tree → Tree
joined (first k) a = a
joined (after_or c k) a = or c a

-- what the term stands in
abbrev pub outer : Open term → Open expression
outer (first k) = k
outer (after_or c k) = k

-- Step s c s': the token c leads from the state s to s'
pub data Step : State → Code → State → Type 0 where
  by_not : {k : Open factor} → Step (operand k) code.Not (operand (after_not k))
  by_open : {k : Open factor} → Step (operand k) code.Open (operand (lone (first (inside k))))
  by_letter : {k : Open factor} {s : ℕ} → count_ones s ≡ 1 → Step (operand k) (code.Letters s) (settled k (seat s))
  by_joint : {k : Open factor} → Step (operand k) code.Joint (square kind.Joint k)
  by_last : {k : Open factor} → Step (operand k) code.Last (square kind.Last k)
  by_exactly : {k : Open factor} → Step (operand k) code.Exactly (digit Exact k)
  by_atleast : {k : Open factor} → Step (operand k) code.AtLeast (digit Least k)
  by_digit : {q : Count} {k : Open factor} {d : ℕ} → Step (digit q k) (code.Digit d) (square (counted q d) k)
  by_square : {g : Group} {k : Open factor} → Step (square g k) code.OpenSquare (letters g k)
  by_letters : {g : Group} {k : Open factor} {s : ℕ} → Step (letters g k) (code.Letters s) (closing g s k)
  by_closing : {g : Group} {s : ℕ} {k : Open factor} → Step (closing g s k) code.CloseSquare (settled k (group g s))
  by_and : {k : Open term} {a : Tree} → Step (operator k a) code.And (operand (after_and a k))
  by_or : {k : Open term} {a : Tree} → Step (operator k a) code.Or (operand (lone (after_or (joined k a) (outer k))))
  by_close : {k : Open term} {a : Tree} {l : Open factor} → outer k ≡ inside l → Step (operator k a) code.Close (settled l (joined k a))

-- the text may end here, and says t
pub data Ends : State → Tree → Type 0 where
  ends : {k : Open term} {a : Tree} → outer k ≡ whole → Ends (operator k a) (joined k a)

-- Accepts s us t: in the state s, the tokens us complete an expression that says t
abbrev pub Accepts : State → List Code → Tree → Type 0
Accepts (operand k) us t = (vs : List Code) × (a : Tree) × Reads factor us vs a × After k a vs t
Accepts (operator k a) us t = (vs : List Code) × (b : Tree) × Reads (ands a) us vs b × After k b vs t
Accepts (digit q k) us t = (d : ℕ) × (s : ℕ) × (vs : List Code) × (us ≡ code.Digit d ∷ code.OpenSquare ∷ code.Letters s ∷ code.CloseSquare ∷ vs) × After k (group (counted q d) s) vs t
Accepts (square g k) us t = (s : ℕ) × (vs : List Code) × (us ≡ code.OpenSquare ∷ code.Letters s ∷ code.CloseSquare ∷ vs) × After k (group g s) vs t
Accepts (letters g k) us t = (s : ℕ) × (vs : List Code) × (us ≡ code.Letters s ∷ code.CloseSquare ∷ vs) × After k (group g s) vs t
Accepts (closing g s k) us t = (vs : List Code) × (us ≡ code.CloseSquare ∷ vs) × After k (group g s) vs t

-- where the reader begins
abbrev pub start : State
start = operand (lone (first whole))
