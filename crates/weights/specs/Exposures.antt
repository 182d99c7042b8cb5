-- Exposures: the count of each seat for a year, beside its present count.
use Rattle.std.specs.Prelude.{ℕ, ◌-◌, ◌*◌, ◌<◌, ◌≤◌, Bool, List, [], ◌∷◌, length, ◌==◌, slice_index_or}
use Rattle.std.specs.List.{list_all}
use Rattle.weights.specs.declared.exposure.Exposure.{Exposure}

-- its count for the year
abbrev pub counted : Exposure → ℕ
counted x = x.count

-- its present count
abbrev pub standing : Exposure → ℕ
standing x = x.present

-- the deaths until that year
abbrev pub gone : Exposure → ℕ
gone x = x.present - x.count

-- the exposure of a failed seat, and of one that a benefit does not name
abbrev pub lost : Exposure
lost = record { count = 0; present = 1 }

-- past the seats there is none
abbrev pub seat_at : List Exposure → ℕ → Exposure
seat_at xs i = slice_index_or xs i (record { count = 0; present = 0 })

-- no count is above the present count
abbrev pub Sound : List Exposure → Type 0
Sound xs = (i : ℕ) → (seat_at xs i).count ≤ (seat_at xs i).present

-- each present count is 1 or more
abbrev pub Present : List Exposure → Type 0
Present xs = (i : ℕ) → i < length xs → 1 ≤ (seat_at xs i).present

-- the product of the present counts
unfoldable pub D : List Exposure → ℕ
D [] = 1
D (x ∷ xs) = x.present * D xs

-- has no seat a count
abbrev pub none_counted : List Exposure → Bool
none_counted = list_all (λ x. x.count == 0)
