-- What is left to show of `AgedLife::column`.
use Rattle.lives.proofs.Columns.{column_later}
use Rattle.std.proofs.Common.{arith}
use Rattle.lives.proofs.aged.AgedLife.column.Goals as goal

pub returns : goal.returns
returns g c =
    let was = c.args.self.now in
    rw c.copy_from_slice.ensures.after (column_later (g.L.Life.count was.life) c.column-below.result was.by (omega arith) c.column-below.ensures (g.met.L.Life.ended was.life))
