-- What reading a text's tokens answers.
use Rattle.std.specs.Prelude.{◌≡◌, ℕ, ◌+◌, ◌<◌, ◌≤◌, ◌&&◌, List, map, length, take, Ok, Err, MatchBool, Result, nat_le, slice_index_or}
use Rattle.tokens.specs.declared.faults.TokenFault.{TokenFault}
use Rattle.tokens.specs.declared.Code.{Code}
use Rattle.tokens.specs.declared.Token.{Token}
use Rattle.expressions.specs.declared.Reading.{Reading}
use Rattle.patterns.specs.Seats.{patterns}
use Rattle.expressions.specs.Grammar.{Tree, Says, Viable}
use Rattle.expressions.specs.Meaning.{holds, packed, seats_in}
use Rattle.expressions.specs.Moves.{wrong}
use Rattle.expressions.specs.declared.lists.Lists.{Lists}
use Rattle.expressions.specs.declared.reads.ReadFault.{ReadFault}
use Rattle.expressions.specs.declared.reads.ReadFault.TheVariants as fault
use Rattle.expressions.specs.Cuts.{cut_all}

-- the codes of tokens, without their places
abbrev pub codes_of : List Token → List Code
codes_of ts = map (λ t. t.code) ts

-- where the i-th token begins, or the end of the text
abbrev pub place_of : List Token → ℕ → ℕ → ℕ
place_of ts end i = slice_index_or (map (λ t. t.place) ts) i end

-- some expression has the first i tokens, and none has the next one there, or ends there
pub record FirstWrong (cs : List Code) (i : ℕ) : Type 0 where
  pub within : i ≤ length cs
  pub before : Viable (take i cs)
  pub there : i < length cs → Viable (take (i + 1) cs) → ⊥
  pub at_end : i ≡ length cs → (t : Tree) → Says cs t → ⊥

-- the tokens say t, and nothing else
pub record Read (x : Reading) (cs : List Code) : Type 0 where
  pub tree : Tree
  pub says : Says cs tree
  pub alone : (t : Tree) → Says cs t → t ≡ tree
  pub answers : x.answers ≡ packed (holds tree) patterns
  pub names : x.named ≡ seats_in tree

-- the reading of an expression, or a fault at the first token that no expression has there
abbrev pub Verdict : Result Reading TokenFault → List Token → ℕ → Type 0
Verdict (Ok x) ts end = Read x (codes_of ts)
Verdict (Err e) ts end = (i : ℕ) × FirstWrong (codes_of ts) i × (e ≡ wrong (place_of ts end i))

-- how many places there are for pending words
abbrev pub pending_room : Lists → ℕ
pending_room l = length l.pending.now

-- how many places there are for answers
abbrev pub answers_room : Lists → ℕ
answers_room l = length l.answers.now

-- as many places in both lists as before
pub record SameRoom (before after : Lists) : Type 0 where
  pub pending : pending_room after ≡ pending_room before
  pub answers : answers_room after ≡ answers_room before

-- the verdict on a text's tokens, or the fault of the cut, which comes first
abbrev pub SaidOf : Result (List Token) TokenFault → Result Reading TokenFault → ℕ → Type 0
SaidOf (Ok ts) r end = Verdict r ts end
SaidOf (Err e) r end = r ≡ Err e

-- what reading a text says, in lists that are long enough
abbrev pub Said : Result Reading TokenFault → List ℕ → Type 0
Said r text = SaidOf (cut_all text) r (length text)

-- a token's fault as the reader's
abbrev pub raised : TokenFault → ReadFault
raised e = fault.Token e

-- the same, where the lists were long enough
abbrev pub Carried : Result Reading ReadFault → List Token → ℕ → Type 0
Carried (Ok x) ts end = Verdict (Ok x) ts end
Carried (Err fault.Short) ts end = ⊥
Carried (Err (fault.Token e)) ts end = Verdict (Err e) ts end

-- a fault of the cut comes first
abbrev pub OfCut : Result (List Token) TokenFault → Result Reading ReadFault → ℕ → Type 0
OfCut (Ok ts) r end = Carried r ts end
OfCut (Err e) r end = r ≡ Err (fault.Token e)

-- with room for p words and a answers: the lists' lengths come before all else
abbrev pub Answered : Result Reading ReadFault → List ℕ → ℕ → ℕ → Type 0
Answered r text p a = MatchBool (nat_le 64 p && nat_le 64 a) (OfCut (cut_all text) r (length text)) (r ≡ Err fault.Short)
