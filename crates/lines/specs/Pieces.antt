-- Text that is parted by a byte.
use Rattle.std.specs.Prelude.{◌≡◌, ℕ, List, [], ◌∷◌, ◌==◌, ◌≢◌}
use Rattle.std.specs.List.{AllByRecursion, slice_split}
use Rattle.writing.specs.Printed.{spaced}

-- what lies between the stops of a text, and before the first and after the last
abbrev pub pieces : ℕ → List ℕ → List (List ℕ)
pieces stop bs = slice_split (λ c. c == stop) bs

-- the fields of what follows a line's kind, each after its space
abbrev pub fields : List ℕ → List (List ℕ)
fields [] = []
fields (c ∷ cs) = pieces 32 cs

-- the first byte, if there is one, is a space
abbrev pub Opens : List ℕ → Type 0
Opens [] = Unit {0}
Opens (c ∷ cs) = c ≡ 32

-- fields written one after another, each after a space, are read back
abbrev pub FieldsStand : Type 0
FieldsStand = (rest : List ℕ) → Opens rest → (spaced (fields rest) ≡ rest) × AllByRecursion (λ f. AllByRecursion (λ c. c ≢ 32) f) (fields rest)
