-- The seats that a token names.
use Rattle.std.specs.Prelude.{ℕ}
use Rattle.tokens.specs.declared.Code.{Code}
use Rattle.tokens.specs.declared.Code.TheVariants.{Or, And, Not, Joint, Last, Exactly, AtLeast, Letters, Digit, Open, Close, OpenSquare, CloseSquare}

-- the set of seats that a token names
abbrev pub seats_of : Code → ℕ
seats_of Or = 0
seats_of And = 0
seats_of Not = 0
seats_of Joint = 0
seats_of Last = 0
seats_of Exactly = 0
seats_of AtLeast = 0
seats_of (Letters s) = s
seats_of (Digit d) = 0
seats_of Open = 0
seats_of Close = 0
seats_of OpenSquare = 0
seats_of CloseSquare = 0
