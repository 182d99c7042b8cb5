-- Numbers as they are written.
use Rattle.std.specs.Prelude.{◌≡◌, ℕ, ◌+◌, ◌-◌, ◌*◌, ◌≤◌, Bool, false, cond, not, ◌&&◌, List, [], ◌∷◌, Some, None, decimal, Option, MatchOption, ◌==◌, ◌≢◌, nat_le}
use Rattle.std.specs.Str.{all_ascii_digits}

-- one digit or more, the first not 0 unless it is alone
abbrev pub well_written : List ℕ → Bool
well_written [] = false
well_written (c ∷ []) = all_ascii_digits (c ∷ [])
well_written (c ∷ d ∷ ds) = not (c == 48) && all_ascii_digits (c ∷ d ∷ ds)

-- the number that digits write, after those of n
abbrev pub read_on : ℕ → List ℕ → ℕ
read_on n [] = n
read_on n (c ∷ cs) = read_on (n * 10 + (c - 48)) cs

-- the number that a field writes, if it writes one of at most the limit
abbrev pub numbered : ℕ → List ℕ → Option ℕ
numbered limit field = cond (well_written field && nat_le (read_on 0 field) limit) (Some (read_on 0 field)) None

-- the answer is the number of at most the limit whose decimal writing is the field, and none where there is no such number
abbrev pub Inverts : ℕ → List ℕ → Option ℕ → Type 0
Inverts limit field r = MatchOption r ((n : ℕ) → n ≤ limit → field ≢ decimal n) (λ n. (n ≤ limit) × (field ≡ decimal n))
