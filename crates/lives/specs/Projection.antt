-- How a life's counts are projected by yearly factors in thousandths.
-- Only the deaths say how a year is rounded. What is proved of a projection rests on two facts about them: they are a number, never negative, and at most those alive.
use Rattle.std.specs.Prelude.{ℕ, zero, suc, ◌-◌, ◌*◌, ◌/◌, min, cond, List, ◌==◌, slice_index}

-- the deaths of a year among those alive, from the counts below of this year and the next: scaled by the factor, cut to a whole number, and no more than are alive
unfoldable pub deaths : ℕ → ℕ → ℕ → ℕ → ℕ
deaths here next factor alive = min (alive * (here - next) * factor / (here * 1000)) alive

-- those alive a year later: nobody where the count below is 0
abbrev pub survivors : ℕ → ℕ → ℕ → ℕ → ℕ
survivors here next factor alive = cond (next == 0) 0 (alive - deaths here next factor alive)

-- the count of year t over the counts below and the factors
unfoldable pub projected : (ℕ → ℕ) → (ℕ → ℕ) → ℕ → ℕ
projected l f zero = l 0
projected l f (suc t) = survivors (l t) (l (suc t)) (f t) (projected l f t)

-- a list's entries, 0 past it
abbrev pub entries : List ℕ → ℕ → ℕ
entries xs t = slice_index xs t
