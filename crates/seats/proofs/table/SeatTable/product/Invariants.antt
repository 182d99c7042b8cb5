-- What the loop of `SeatTable::product` keeps.
use Rattle.std.proofs.Common.{◌≡◌, ◌*◌, drop}
use Rattle.seats.specs.Seats.{product, first}
use Rattle.seats.proofs.table.SeatTable.product.Given as goal

abbrev pub invariant-loop-seat : goal.invariant-loop-seat
invariant-loop-seat l = l.all * product first (drop l.seat-index l.self.seats) ≡ product first l.self.seats
