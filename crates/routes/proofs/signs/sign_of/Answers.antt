-- The needs of `sign_of`.
use Rattle.std.proofs.Common.{◌<◌}
use Rattle.patterns.specs.Seats.{patterns}
use Rattle.patterns.specs.Patterns.{flags, size, within}
use Rattle.weights.specs.Differences.{sign, alternating}
use Rattle.routes.proofs.Table.{entry_is}
use Rattle.routes.proofs.signs.sign_of.Goals as goal

pub returns : goal.returns
unfolding flags size within sign alternating
returns c =
    let hj : c.args.set < patterns = c.requires.0 in
    let hp : c.args.pattern < patterns = c.requires.1 in
    rw entry_is
