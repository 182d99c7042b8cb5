-- The invariant of the loop in `add`.
use Rattle.std.proofs.Common.{◌≡◌, ℕ, ◌+◌, ◌<◌, ◌≤◌, length, get_or}
use Rattle.patterns.specs.Seats.{patterns}
use Rattle.benefits.specs.Clauses.{paid}
use Rattle.benefits.proofs.sums.Sums.add.Given as goal

abbrev pub invariant-loop-p : goal.invariant-loop-p
invariant-loop-p l =
    (length l.share-items ≡ patterns)
    × ((k : ℕ) → k < l.p → get_or l.share-items k 0 ≡ get_or l.initial.share-items k 0 + paid l.clause k)
    × ((k : ℕ) → l.p ≤ k → get_or l.share-items k 0 ≡ get_or l.initial.share-items k 0)
