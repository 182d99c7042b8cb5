-- An output before and after bytes are written to it.
use Rattle.std.specs.Prelude.{◌≡◌, ℕ, ◌-◌, List, length}
use Rattle.writing.specs.declared.output.Output.{Output}
use Rattle.writing.specs.Printed.{Written}

-- how many bytes there is room for
abbrev pub room : Output → ℕ
room output = length output.area.now - output.len

-- bytes were added to what was written before, in the area that was lent
pub record Adds (before after : Output) (bytes : List ℕ) : Type 0 where
  pub lent : after.area.ghost_name ≡ before.area.ghost_name
  pub written : Written before.area.now before.len after.area.now after.len bytes
