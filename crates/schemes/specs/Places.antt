-- The fields of a line with the places where they begin.
use Rattle.std.specs.Prelude.{ℕ, ◌+◌, List, [], ◌∷◌, length}
use Rattle.std.specs.Borrow.{Bor}
use Rattle.lines.specs.Pieces.{fields}
use Rattle.schemes.specs.declared.fields.Fields.{Fields}

-- fields one after another, the first at a place, and a space between each and the next
abbrev pub placed : ℕ → List (List ℕ) → List (ℕ × List ℕ)
placed place [] = []
placed place (f ∷ fs) = (place, f) ∷ placed (place + length f + 1) fs

-- what is ahead of a reader
abbrev pub ahead : Fields → List (ℕ × List ℕ)
ahead s = placed s.place (fields s.left.now)

-- a field that is read, by its place and its bytes
abbrev pub seen : ℕ × Bor (List ℕ) → ℕ × List ℕ
seen x = (x.0, x.1.now)
