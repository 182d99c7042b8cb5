-- The classes of bytes of which there are runs, and their longest runs.
use Rattle.std.specs.Prelude.{ℕ, ◌+◌, Bool, ◌&&◌, List, take, drop, ◌==◌, nat_le, nat_lt}
use Rattle.std.specs.List.{prefix_len}
use Rattle.patterns.specs.Seats.{seats}
use Rattle.tokens.specs.declared.classes.Class.{Class}
use Rattle.tokens.specs.declared.classes.Class.TheVariants.{Space, Lower, Seat, Digit}

-- a space, a lower-case letter, a seat's letter (A is the first), a decimal digit
abbrev pub member : Class → ℕ → Bool
member Space b = b == 32
member Lower b = nat_le 97 b && nat_le b 122
member Seat b = nat_le 65 b && nat_lt b (65 + seats)
member Digit b = nat_le 48 b && nat_le b 57

-- where the longest run of a class from p on ends
abbrev pub end_at : List ℕ → ℕ → Class → ℕ
end_at text p c = p + prefix_len (member c) (drop p text)

-- the longest run of a class from p on
abbrev pub run_at : List ℕ → ℕ → Class → List ℕ
run_at text p c = take (prefix_len (member c) (drop p text)) (drop p text)
