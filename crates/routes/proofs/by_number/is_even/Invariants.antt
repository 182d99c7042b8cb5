-- The invariant of `is_even`.
use Rattle.std.proofs.Common.{◌≡◌, ℕ, ◌<◌, T, get_or}
use Rattle.patterns.specs.Seats.{seats}
use Rattle.patterns.specs.Patterns.{flags, size, within}
use Rattle.weights.specs.Numbers.{share_with}
use Rattle.routes.proofs.by_number.is_even.Given as goal

abbrev pub invariant-loop-p : goal.invariant-loop-p
invariant-loop-p l =
    (q : ℕ) → q < l.p → T (within (flags seats q) (flags seats l.named))
    → get_or l.shares.twentieths q 0 ≡ share_with seats (λ i. get_or l.shares.twentieths i 0) l.named (size (flags seats q))
