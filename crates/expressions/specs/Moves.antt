-- One token more, and the end. Only the reader's own functions cite this.
use Rattle.std.specs.Prelude.{◌≡◌, ℕ, Ok, Err, Result}
use Rattle.refusals.specs.declared.Refusal.TheVariants.{Grammar}
use Rattle.tokens.specs.declared.faults.TokenFault.{TokenFault}
use Rattle.tokens.specs.declared.Code.{Code}
use Rattle.tokens.specs.declared.Token.{Token}
use Rattle.expressions.specs.declared.Reader.{Reader}
use Rattle.stacks.specs.Items.{room}
use Rattle.expressions.specs.declared.Reading.{Reading}
use Rattle.expressions.specs.Grammar.{Tree}
use Rattle.expressions.specs.Masks.{mask_of}
use Rattle.expressions.specs.Layout.{Fits, words_in, masks_in}
use Rattle.expressions.specs.States.{State, Step, Ends}

-- a step by the token c leads to a state that r stands in
abbrev pub Moved : State → Code → Reader → Type 0
Moved s c r = (s' : State) × Step s c s' × Fits s' r

-- there is no step by the token c
abbrev pub Stuck : State → Code → Type 0
Stuck s c = (s' : State) → Step s c s' → ⊥

-- the grammar's fault at a place
abbrev pub wrong : ℕ → TokenFault
wrong place = record { refusal = Grammar; place = place }

-- the token was taken by a step, or there is none
abbrev pub Took : Result (Unit {0}) TokenFault → State → Token → Reader → Type 0
Took (Ok x) s t r = Moved s t.code r
Took (Err e) s t r = (e ≡ wrong t.place) × Stuck s t.code

-- all but the named seats as it was
pub record Same (r s : Reader) : Type 0 where
  pub pending_room : room s.pending ≡ room r.pending
  pub answers_room : room s.answers ≡ room r.answers
  pub same_words : words_in s ≡ words_in r
  pub same_masks : masks_in s ≡ masks_in r
  pub same_expect : s.expect ≡ r.expect

-- what the text's end says
abbrev pub Finished : Result Reading TokenFault → State → ℕ → ℕ → Type 0
Finished (Ok x) s end named = (t : Tree) × Ends s t × (x.answers ≡ mask_of t) × (x.named ≡ named)
Finished (Err e) s end named = (e ≡ wrong end) × ((t : Tree) → Ends s t → ⊥)
