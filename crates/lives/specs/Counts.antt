-- The count that a basis or an adjustment has in year t.
use Rattle.std.specs.Prelude.{ℕ, ◌+◌, ◌-◌, ◌*◌, List, slice_index}

-- by a list: its entry t, and 0 past the list
abbrev pub listed : List ℕ → ℕ → ℕ
listed xs t = slice_index xs t

-- by a number of years and a step: the step times the years that are left, and 0 after them
abbrev pub straight : ℕ → ℕ → ℕ → ℕ
straight years step t = step * (years - t)

-- aged by some years: the count of so many years later
abbrev pub later : (ℕ → ℕ) → ℕ → ℕ → ℕ
later l by t = l (t + by)
