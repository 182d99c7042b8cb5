-- What is left to show of `InForce::fail`.
use Rattle.std.proofs.Common.{sym, subst}
use Rattle.seats.specs.Seats.{present, Columns, Within}
use Rattle.cases.proofs.Sounds.{failed_columns, failed-within}
use Rattle.cases.proofs.inforce.InForce.fail.Goals as goal

pub invariant_of-self : goal.invariant_of-self
invariant_of-self c =
    let was = c.args.self.now in
    let seats = was.table.seats in
    let e = sym c.fail.ensures in
    record { columns = subst Columns e (failed_columns seats c.in_ok-seat.seat.index c.in_ok-seat.seat.seated was.columns); within = subst (Within (present was.elapsed)) e (failed-within was.elapsed seats c.in_ok-seat.seat.index was.within); young = was.young }
