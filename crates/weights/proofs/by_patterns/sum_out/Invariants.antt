-- The invariant of `sum_out`.
use Rattle.weights.proofs.SumOut.{Summing}
use Rattle.weights.proofs.by_patterns.sum_out.Given as goal

abbrev pub invariant-loop-p : goal.invariant-loop-p
invariant-loop-p l = Summing l.seat l.others l.initial.sums l.p l.sums
