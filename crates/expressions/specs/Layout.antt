-- What the two stacks hold in each state. Only the reader's own functions cite this.
use Rattle.std.specs.Prelude.{◌≡◌, ℕ, ◌-◌, Bool, true, false, cond, List, [], ◌∷◌, map, ◌==◌, bit_and, bit_or}
use Rattle.stacks.specs.Items.{items, room, head, rest}
use Rattle.std.specs.Option.{unwrap_or}
use Rattle.expressions.specs.declared.Word.{Word}
use Rattle.expressions.specs.declared.Word.TheVariants.{Or, And, Not, Open}
use Rattle.expressions.specs.declared.Expect.{Expect}
use Rattle.expressions.specs.declared.Expect.TheVariants as expect
use Rattle.expressions.specs.declared.Reader.{Reader}
use Rattle.expressions.specs.Grammar.{Part}
use Rattle.expressions.specs.Masks.{always, mask_of}
use Rattle.expressions.specs.Open as open_part
use Rattle.expressions.specs.Open.{whole, inside, first, after_or, lone, after_and, after_not}
use Rattle.expressions.specs.States.{State, operand, operator, digit, square, letters, closing}

-- the words that wait, the last first
abbrev pub words_in : Reader → List Word
words_in r = map (λ p. p.word) (items r.pending)

-- the answers that wait, the last first
abbrev pub masks_in : Reader → List ℕ
masks_in r = items r.answers

-- the same room in both stacks, and the same named seats
pub record Kept (r s : Reader) : Type 0 where
  pub pending_room : room s.pending ≡ room r.pending
  pub answers_room : room s.answers ≡ room r.answers
  pub same_named : s.named ≡ r.named

-- a number for each word, to tell them apart
abbrev pub rank : Word → ℕ
rank Or = 0
rank And = 1
rank Not = 2
rank Open = 3

-- whether a word is the last that waits
abbrev pub is_top : Word → List Word → Bool
is_top w [] = false
is_top w (v ∷ vs) = rank v == rank w

-- whether no word waits
abbrev pub is_nil : List Word → Bool
is_nil [] = true
is_nil (w ∷ ws) = false

-- the last answers that wait
abbrev pub top : List ℕ → ℕ
top ms = unwrap_or (head ms) 0

-- the words and the answers once a factor with the answers m is complete
abbrev pub complete_words : List Word → List Word
complete_words [] = []
complete_words (Or ∷ ws) = Or ∷ ws
complete_words (And ∷ ws) = ws
complete_words (Not ∷ ws) = complete_words ws
complete_words (Open ∷ ws) = Open ∷ ws

-- the answers that then wait
abbrev pub complete_masks : List Word → List ℕ → ℕ → List ℕ
complete_masks [] ms m = m ∷ ms
complete_masks (Or ∷ ws) ms m = m ∷ ms
complete_masks (And ∷ ws) ms m = bit_and (top ms) m ∷ rest ms
complete_masks (Not ∷ ws) ms m = complete_masks ws ms (always - m)
complete_masks (Open ∷ ws) ms m = m ∷ ms

-- the same once a term is complete
abbrev pub join_words : List Word → List Word
join_words ws = cond (is_top Or ws) (rest ws) ws

-- the answers that then wait
abbrev pub join_masks : List Word → List ℕ → List ℕ
join_masks ws ms = cond (is_top Or ws) (bit_or (top (rest ms)) (top ms) ∷ rest (rest ms)) ms

-- what a state has on the two stacks, and what it expects
abbrev pub words_of : {p : Part} → open_part.Open p → List Word
words_of whole = []
words_of (inside k) = Open ∷ words_of k
words_of (first k) = words_of k
words_of (after_or a k) = Or ∷ words_of k
words_of (lone k) = words_of k
words_of (after_and a k) = And ∷ words_of k
words_of (after_not k) = Not ∷ words_of k

-- the answers that wait where a part stands open
abbrev pub masks_of : {p : Part} → open_part.Open p → List ℕ
masks_of whole = []
masks_of (inside k) = masks_of k
masks_of (first k) = masks_of k
masks_of (after_or a k) = mask_of a ∷ masks_of k
masks_of (lone k) = masks_of k
masks_of (after_and a k) = mask_of a ∷ masks_of k
masks_of (after_not k) = masks_of k

-- the words that wait in a state
abbrev pub words : State → List Word
words (operand k) = words_of k
words (operator k a) = words_of k
words (digit q k) = words_of k
words (square g k) = words_of k
words (letters g k) = words_of k
words (closing g s k) = words_of k

-- the answers that wait in a state
abbrev pub masks : State → List ℕ
masks (operand k) = masks_of k
masks (operator k a) = mask_of a ∷ masks_of k
masks (digit q k) = masks_of k
masks (square g k) = masks_of k
masks (letters g k) = masks_of k
masks (closing g s k) = masks_of k

-- what a state expects next
abbrev pub expects : State → Expect
expects (operand k) = expect.Operand
expects (operator k a) = expect.Operator
expects (digit q k) = expect.Digit q
expects (square g k) = expect.Square g
expects (letters g k) = expect.Letters g
expects (closing g s k) = expect.Closing g s

-- the reader stands in the state
pub record Fits (s : State) (r : Reader) : Type 0 where
  pub expecting : r.expect ≡ expects s
  pub waiting : words_in r ≡ words s
  pub answering : masks_in r ≡ masks s
