-- The seats as a weight for a year from 1 on sees them before and after this year, by the set of those who survive it.
use Rattle.std.proofs.Common.{ℕ, ◌-◌, ◌*◌, ◌≤◌, Bool, true, false, ◌&&◌, leb, List, [], ◌∷◌}
use Rattle.patterns.specs.Patterns.{Pattern}
use Rattle.weights.specs.declared.exposure.Exposure.{Exposure}
use Rattle.weights.specs.Exposures.{lost}

-- a living seat has its count for the year, its count for year 1 and its present count; any other stands as failed
pub data Seen : Type 0 where
  living : ℕ → ℕ → ℕ → Seen
  failed : Seen

-- counts never rise
abbrev pub Orderly : List Seen → Type 0
Orderly [] = Unit {0}
Orderly (living a r₁ r ∷ ss) = (a ≤ r₁) × (r₁ ≤ r) × Orderly ss
Orderly (failed ∷ ss) = Orderly ss

-- every living seat is named
abbrev pub Names : Pattern → List Seen → Type 0
Names N [] = Unit {0}
Names [] (living a r₁ r ∷ ss) = ⊥
Names [] (failed ∷ ss) = Names [] ss
Names (true ∷ N) (s ∷ ss) = Names N ss
Names (false ∷ N) (living a r₁ r ∷ ss) = ⊥
Names (false ∷ N) (failed ∷ ss) = Names N ss

-- the exposures for year t from now
unfoldable pub seen : List Seen → List Exposure
seen [] = []
seen (living a r₁ r ∷ ss) = record { count = a; present = r } ∷ seen ss
seen (failed ∷ ss) = lost ∷ seen ss

-- the exposures for year t - 1 once those not in J have failed and the year has ended: a survivor's present count is its count for year 1
unfoldable pub after : List Seen → Pattern → List Exposure
after [] J = []
after (s ∷ ss) [] = lost ∷ after ss []
after (living a r₁ r ∷ ss) (true ∷ J) = record { count = a; present = r₁ } ∷ after ss J
after (living a r₁ r ∷ ss) (false ∷ J) = lost ∷ after ss J
after (failed ∷ ss) (j ∷ J) = lost ∷ after ss J

-- is each member of J a living seat that can survive this year
unfoldable pub can : List Seen → Pattern → Bool
can [] J = true
can (s ∷ ss) [] = can ss []
can (living a r₁ r ∷ ss) (true ∷ J) = leb 1 r₁ && can ss J
can (living a r₁ r ∷ ss) (false ∷ J) = can ss J
can (failed ∷ ss) (true ∷ J) = false
can (failed ∷ ss) (false ∷ J) = can ss J

-- the deaths this year of the living seats not in J, multiplied together
unfoldable pub deaths : List Seen → Pattern → ℕ
deaths [] J = 1
deaths (s ∷ ss) [] = 1
deaths (living a r₁ r ∷ ss) (true ∷ J) = deaths ss J
deaths (living a r₁ r ∷ ss) (false ∷ J) = (r - r₁) * deaths ss J
deaths (failed ∷ ss) (j ∷ J) = deaths ss J
