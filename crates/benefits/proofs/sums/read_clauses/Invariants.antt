-- The invariant of the loop in `read_clauses`.
use Rattle.std.proofs.Common.{◌≡◌, ◌+◌, ◌≤◌, false, length}
use Rattle.std.specs.Slice.Iter.{split_rest, split_done}
use Rattle.expressions.specs.Verdict.{SameRoom, pending_room, answers_room}
use Rattle.benefits.specs.Clauses.{clauses_of}
use Rattle.benefits.proofs.Parting.{left}
use Rattle.benefits.proofs.Saying.{Sofar}
use Rattle.benefits.proofs.sums.read_clauses.Given as goal

abbrev pub invariant-loop-i : goal.invariant-loop-i
invariant-loop-i l =
    (goal.iterator-loop-i).can_next l.i-iterator
    × (goal.iterator-loop-i).is_finite l.i-iterator
    × Sofar (clauses_of l.text) (left (split_rest l.i-iterator.iter) (split_done l.i-iterator.iter)) l.at (l.i-iterator.count + 1) l.sums.named l.sums.twentieths (pending_room l.initial.lists) (answers_room l.initial.lists)
    × SameRoom l.initial.lists l.lists
    × (split_done l.i-iterator.iter ≡ false → l.at + length (split_rest l.i-iterator.iter) ≤ length l.text)
