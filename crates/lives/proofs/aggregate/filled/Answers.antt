-- What is left to show of `filled`.
use Rattle.lives.proofs.Columns.{padded}
use Rattle.lives.proofs.aggregate.filled.Goals as goal

pub returns : goal.returns
returns c t = rw c.copy_from_slice.ensures.after (padded c.args.list.now 121 t)
