-- A text's tokens, at most 64, or the leftmost fault of the cut.
use Rattle.std.specs.Prelude.{ℕ, zero, suc, cond, List, [], ◌∷◌, ◌++◌, Some, None, Ok, Err, Option, Result, nat_lt}
use Rattle.refusals.specs.declared.Refusal.{Refusal}
use Rattle.refusals.specs.declared.Refusal.TheVariants.{TooManyTokens}
use Rattle.refusals.specs.Numbers.{number}
use Rattle.tokens.specs.declared.faults.TokenFault.{TokenFault}
use Rattle.tokens.specs.declared.Token.{Token}
use Rattle.tokens.specs.Look.{look, after}

-- the tokens, or the fault of the cut
abbrev Tokens : Type 0
Tokens = Result (List Token) TokenFault

-- the fault of a token too many
abbrev many : ℕ → TokenFault
many p = record { refusal = TooManyTokens; place = p }

-- at a 65th token the lower of two codes decides
abbrev pub lower : Refusal → Refusal
lower e = cond (nat_lt (number e) (number TooManyTokens)) e TooManyTokens

-- what the cut says where no more tokens are allowed
abbrev pub full : Result (Option Token) TokenFault → Tokens
full (Ok None) = Ok []
full (Ok (Some t)) = Err (many t.place)
full (Err e) = Err (record { refusal = lower e.refusal; place = e.place })

-- tokens before those of a cut
abbrev pub prefixed : List Token → Tokens → Tokens
prefixed ts (Ok us) = Ok (ts ++ us)
prefixed ts (Err e) = Err e

-- the next token, and then the others
abbrev pub one_more : Result (Option Token) TokenFault → Tokens → Tokens
one_more (Ok None) r = Ok []
one_more (Ok (Some t)) r = prefixed (t ∷ []) r
one_more (Err e) r = Err e

-- at most n tokens from p on
unfoldable pub cut_from : ℕ → List ℕ → ℕ → Tokens
cut_from zero text p = full (look text p)
cut_from (suc n) text p = one_more (look text p) (cut_from n text (after text p))

-- all the tokens of a text
abbrev pub cut_all : List ℕ → Tokens
cut_all text = cut_from 64 text 0
