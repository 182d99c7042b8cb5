-- What a stack holds: its items, the top first.
use Rattle.std.specs.Prelude.{ℕ, List, [], ◌∷◌, reverse, length, take, Some, None, Option}
use Rattle.stacks.specs.declared.Stack.{Stack}

-- the first n of xs, the last of them first
abbrev pub piled : {T : Type 0} → ℕ → List T → List T
piled n xs = reverse (take n xs)

-- the first of a list, if there is one
abbrev pub head : {T : Type 0} → List T → Option T
head [] = None
head (x ∷ xs) = Some x

-- all but the first
abbrev pub rest : {T : Type 0} → List T → List T
rest [] = []
rest (x ∷ xs) = xs

module _ {T : Type 0} where
  -- the items, the top first
  abbrev pub items : Stack T → List T
  items s = piled s.len s.slots.now

  -- how many items there is room for
  abbrev pub room : Stack T → ℕ
  room s = length s.slots.now
