-- The kinds of lines.
use Rattle.std.specs.Prelude.{ℕ, Bool, true, cond, List, [], ◌∷◌, Some, None, Option, ◌==◌}
use Rattle.lines.specs.declared.kind.Kind.{Kind}
use Rattle.lines.specs.declared.kind.Kind.TheVariants.{Table, Life, Withdraw, Rate, Start, Fail, YearEnd, Close, Benefit}

-- the byte that names a kind
abbrev pub letter : Kind → ℕ
letter Table = 84
letter Life = 76
letter Withdraw = 87
letter Rate = 82
letter Start = 70
letter Fail = 88
letter YearEnd = 89
letter Close = 69
letter Benefit = 66

-- all kinds
abbrev pub kinds : List Kind
kinds = Table ∷ Life ∷ Withdraw ∷ Rate ∷ Start ∷ Fail ∷ YearEnd ∷ Close ∷ Benefit ∷ []

-- the kind of those listed that a byte names
abbrev pub named : ℕ → List Kind → Option Kind
named c [] = None
named c (k ∷ ks) = cond (c == letter k) (Some k) (named c ks)

-- the line's end, or a space
abbrev pub opens : List ℕ → Bool
opens [] = true
opens (c ∷ cs) = c == 32

-- the kind of a line: its first byte names one, and a space or the line's end follows it
abbrev pub kind_of : List ℕ → Option Kind
kind_of [] = None
kind_of (c ∷ cs) = cond (opens cs) (named c kinds) None

-- what follows the first byte
abbrev pub after_kind : List ℕ → List ℕ
after_kind [] = []
after_kind (c ∷ cs) = cs
