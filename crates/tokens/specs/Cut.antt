-- How a text is cut into tokens.
use Rattle.std.specs.Prelude.{ℕ, ◌+◌, ◌-◌, ◌^◌, ◌≤◌, cond, ◌&&◌, List, [], ◌∷◌, length, Some, None, Ok, Err, codes, Option, Result, ◌==◌, bit_or, nat_le, nat_lt, slice_index}
use Rattle.std.specs.Str.{bytes_eq}
use Rattle.refusals.specs.declared.Refusal.{Refusal}
use Rattle.refusals.specs.declared.Refusal.TheVariants.{UnknownByte, UnknownWord, NotRising}
use Rattle.tokens.specs.declared.classes.Class.TheVariants.{Space, Lower, Seat}
use Rattle.tokens.specs.declared.Code.{Code}
use Rattle.tokens.specs.declared.Code.TheVariants.{Or, And, Not, Joint, Last, Exactly, AtLeast, Letters, Digit, Open, Close, OpenSquare, CloseSquare}
use Rattle.tokens.specs.declared.faults.TokenFault.{TokenFault}
use Rattle.tokens.specs.declared.scan.Scanned.{Scanned}
use Rattle.tokens.specs.Classes.{member, end_at, run_at}

-- the word of a token
abbrev pub word_of : List ℕ → Option Code
word_of bs =
    cond (bytes_eq bs (codes "or")) (Some Or) (
    cond (bytes_eq bs (codes "and")) (Some And) (
    cond (bytes_eq bs (codes "not")) (Some Not) (
    cond (bytes_eq bs (codes "joint")) (Some Joint) (
    cond (bytes_eq bs (codes "last")) (Some Last) (
    cond (bytes_eq bs (codes "exactly")) (Some Exactly) (
    cond (bytes_eq bs (codes "atleast")) (Some AtLeast) None))))))

-- the set of the seat of a letter
abbrev pub bit_of : ℕ → ℕ
bit_of b = 2 ^ (b - 65)

-- the seats of a run in which each letter is above the one before it, the first above `last`
abbrev pub set_of : ℕ → ℕ → List ℕ → Option ℕ
set_of last set [] = Some set
set_of last set (b ∷ bs) = cond (nat_lt last b) (set_of b (bit_or set (bit_of b)) bs) None

-- the token of one byte
abbrev pub mark_of : ℕ → Option Code
mark_of b =
    cond (nat_le 48 b && nat_le b 57) (Some (Digit (b - 48))) (
    cond (b == 40) (Some Open) (
    cond (b == 41) (Some Close) (
    cond (b == 91) (Some OpenSquare) (
    cond (b == 93) (Some CloseSquare) None))))

-- a token and where it ends, or none at the text's end, or a fault
abbrev Scan : Type 0
Scan = Result (Option Scanned) TokenFault

-- the token of a code from p to e
abbrev pub token : ℕ → ℕ → Code → Scan
token p e c = Ok (Some (record { token = record { code = c; place = p }; end = e }))

-- a fault at p
abbrev pub refused : Refusal → ℕ → Scan
refused c p = Err (record { refusal = c; place = p })

-- what f makes of a code, or else d
abbrev pub or_else : Option Code → (Code → Scan) → Scan → Scan
or_else None f d = d
or_else (Some c) f d = f c

-- letters, if there is a set of them
abbrev pub letters_of : Option ℕ → Option Code
letters_of None = None
letters_of (Some s) = Some (Letters s)

-- the word at p
abbrev pub word_at : List ℕ → ℕ → Scan
word_at text p = or_else (word_of (run_at text p Lower)) (token p (end_at text p Lower)) (refused UnknownWord p)

-- the letters at p
abbrev pub seats_at : List ℕ → ℕ → Scan
seats_at text p = or_else (letters_of (set_of 0 0 (run_at text p Seat))) (token p (end_at text p Seat)) (refused NotRising p)

-- the token that begins with the byte b at p
abbrev pub token_at : List ℕ → ℕ → ℕ → Scan
token_at text p b =
    cond (member Lower b) (word_at text p) (
    cond (member Seat b) (seats_at text p) (
    or_else (mark_of b) (token p (p + 1)) (refused UnknownByte p)))

-- the first token from a place on
abbrev pub scan_at : List ℕ → ℕ → Scan
scan_at text from = cond (nat_lt (end_at text from Space) (length text)) (token_at text (end_at text from Space) (slice_index text (end_at text from Space))) (Ok None)

-- a token that is found ends within the text
abbrev pub Within : Scan → ℕ → Type 0
Within (Ok None) n = Unit {0}
Within (Ok (Some s)) n = s.end ≤ n
Within (Err e) n = Unit {0}
