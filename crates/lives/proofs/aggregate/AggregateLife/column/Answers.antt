-- What is left to show of `AggregateLife::column`.
use Rattle.std.proofs.Common.{refl}
use Rattle.lives.specs.Counts.{listed}
use Rattle.lives.proofs.Columns.{column_from}
use Rattle.lives.proofs.aggregate.AggregateLife.column.Goals as goal

pub returns : goal.returns
returns c = let counts = c.args.self.now.counts in column_from (listed counts) counts c.args.self.now.whole (λ k h. refl)
