-- What a lexer sees next.
use Rattle.std.specs.Prelude.{ℕ, List, Some, None, Ok, Err, Option, Result}
use Rattle.tokens.specs.declared.faults.TokenFault.{TokenFault}
use Rattle.tokens.specs.declared.scan.Scanned.{Scanned}
use Rattle.tokens.specs.declared.Token.{Token}
use Rattle.tokens.specs.declared.lexer.Lexer.{Lexer}
use Rattle.tokens.specs.Cut.{scan_at}

-- the text of a lexer, and how far it has come
abbrev pub lexed : Lexer → List ℕ
lexed l = l.text.now

-- how far a lexer has come
abbrev pub at : Lexer → ℕ
at l = l.place

-- the token that was found
abbrev pub token_of : Result (Option Scanned) TokenFault → Result (Option Token) TokenFault
token_of (Ok None) = Ok None
token_of (Ok (Some s)) = Ok (Some s.token)
token_of (Err e) = Err e

-- where it ends
abbrev end_of : ℕ → Result (Option Scanned) TokenFault → ℕ
end_of p (Ok None) = p
end_of p (Ok (Some s)) = s.end
end_of p (Err e) = p

-- the next token from p on, or none at the text's end
abbrev pub look : List ℕ → ℕ → Result (Option Token) TokenFault
look text p = token_of (scan_at text p)

-- where the text goes on after it
abbrev pub after : List ℕ → ℕ → ℕ
after text p = end_of p (scan_at text p)
