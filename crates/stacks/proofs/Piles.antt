-- A stack holds no more than it has room for.
use Rattle.std.proofs.Common.{◌≤◌, length, take, arith, length-take}
use Rattle.std.proofs.lemmas.List.{length-reverse}
use Rattle.stacks.specs.Items.{items, room}
use Rattle.stacks.specs.declared.Stack.{Stack}

pub within-room : {T : Type 0} (s : Stack T) → length (items s) ≤ room s
within-room s = omega (arith, length-reverse (take s.len s.slots.now), length-take s.len s.slots.now)
