-- The needs of `name`.
use Rattle.std.proofs.Common.{sym, ap, ◌∙◌}
use lib.Bits.{bit_or, or_zero_r}
use Rattle.expressions.proofs.Moving.{no_seats}
use Rattle.expressions.proofs.Reader.name.Goals as goal

pub returns-in_default-clause-named : goal.returns-in_default-clause-named
returns-in_default-clause-named c = sym (ap (bit_or c.args.self.now.named) (no_seats c.args.code c.in_default.not-Letters) ∙ or_zero_r c.args.self.now.named)
