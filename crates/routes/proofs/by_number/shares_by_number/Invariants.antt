-- The invariant of `shares_by_number`.
use Rattle.std.proofs.Common.{get_or}
use Rattle.patterns.specs.Seats.{seats}
use Rattle.routes.proofs.ByNumber.{Tabled}
use Rattle.routes.proofs.by_number.shares_by_number.Given as goal

abbrev pub invariant-loop-p : goal.invariant-loop-p
invariant-loop-p l = Tabled seats (λ q. get_or l.shares.twentieths q 0) l.named l.p l.twentieths
