-- The invariant of the loop in `read_tokens`.
use Rattle.std.proofs.Common.{◌≤◌}
use Rattle.stacks.specs.Items.{room}
use Rattle.expressions.proofs.Along.{Along}
use Rattle.expressions.proofs.lists.Lists.read_tokens.Given as goal

abbrev pub invariant-loop-token : goal.invariant-loop-token
invariant-loop-token l = Along l.tokens l.token-index l.reader × (64 ≤ room l.reader.pending) × (64 ≤ room l.reader.answers)
