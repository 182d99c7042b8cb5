-- What an expression answers in each pattern of the lives alive, and the seats that it names.
use Rattle.std.specs.Prelude.{ℕ, zero, suc, ◌+◌, ◌^◌, Bool, cond, not as nay, ◌&&◌, ◌||◌, ◌==◌, bit_and, bit_or, count_ones, nat_le, nat_lt}
use Rattle.expressions.specs.declared.Group.{Group}
use Rattle.expressions.specs.declared.Group.TheVariants as kind
use Rattle.expressions.specs.Grammar.{Tree, seat, group, not, and, or}

-- of the seats s, as many as are alive
abbrev pub alive : ℕ → ℕ → ℕ
alive s pattern = count_ones (bit_and s pattern)

-- joint: all are alive; last: at least one is; exactly and atleast: compared with the digit
abbrev pub group_holds : Group → ℕ → ℕ → Bool
group_holds kind.Joint s p = alive s p == count_ones s
group_holds kind.Last s p = nat_lt 0 (alive s p)
group_holds (kind.Exactly d) s p = alive s p == d
group_holds (kind.AtLeast d) s p = nat_le d (alive s p)

-- whether an expression holds in a pattern; a letter holds if its seat is alive
abbrev pub holds : Tree → ℕ → Bool
holds (seat s) p = group_holds kind.Last s p
holds (group g s) p = group_holds g s p
holds (not a) p = nay (holds a p)
holds (and a b) p = holds a p && holds b p
holds (or a b) p = holds a p || holds b p

-- the set of the seats that an expression names
abbrev pub seats_in : Tree → ℕ
seats_in (seat s) = s
seats_in (group g s) = s
seats_in (not a) = seats_in a
seats_in (and a b) = bit_or (seats_in a) (seats_in b)
seats_in (or a b) = bit_or (seats_in a) (seats_in b)

-- the answers in the first n patterns, one bit each
abbrev pub packed : (ℕ → Bool) → ℕ → ℕ
packed f zero = 0
packed f (suc n) = packed f n + cond (f n) (2 ^ n) 0
