-- The invariant of `number`.
use Rattle.std.proofs.Common.{◌≡◌, ◌≤◌, drop}
use Rattle.writing.specs.Numbers.{numbered}
use Rattle.writing.proofs.Reading.{reading}
use Rattle.writing.proofs.number.number.Given as goal

abbrev pub invariant-loop-b : goal.invariant-loop-b
invariant-loop-b l = (l.n ≤ l.limit) × (reading l.limit l.n (drop l.b-index l.field) ≡ numbered l.limit l.field)
