-- The number of each refusal.
use Rattle.std.specs.Prelude.{ℕ}
use Rattle.refusals.specs.declared.Refusal.{Refusal}
use Rattle.refusals.specs.declared.Refusal.TheVariants.{UnknownByte, TooManyTokens, UnknownWord, Grammar, NotRising, Number, AboveFull, TooManyClauses, NoSeat, Counts, Limit, Year, FileTooLong, Line, Memory, NoCount, Uneven, Occupied, Vacant, AlreadyFailed, ProductTooLarge, Ending, Phase}

-- the number by which each refusal is printed
abbrev pub number : Refusal → ℕ
number UnknownByte = 1
number TooManyTokens = 2
number UnknownWord = 3
number Grammar = 4
number NotRising = 5
number Number = 6
number AboveFull = 7
number TooManyClauses = 8
number NoSeat = 9
number Counts = 10
number Limit = 11
number Year = 12
number FileTooLong = 13
number Line = 14
number Memory = 15
number NoCount = 16
number Uneven = 17
number Occupied = 21
number Vacant = 22
number AlreadyFailed = 23
number ProductTooLarge = 25
number Ending = 26
number Phase = 28
