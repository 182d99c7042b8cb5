-- What is left to show of `SeatTable::product`.
use Rattle.std.proofs.Common.{◌≡◌, ◌+◌, ◌*◌, drop, sym, ap, ◌∙◌, mul-one, arith}
use Rattle.std.proofs.lemmas.List.{drop_all}
use Rattle.seats.specs.Seats.{seat_at, product, first}
use Rattle.seats.proofs.Products.{product_more, product-within}
use Rattle.seats.proofs.table.SeatTable.product.Goals as goal

next : (c : goal.After-from-all) → c.loop-seat.all * c.from-all.result * product first (drop (c.loop-seat.seat-index + 1) c.args.self.now.seats) ≡ product first c.args.self.now.seats
next c =
    let seats = c.args.self.now.seats in
    let read : c.from-all.result ≡ first (seat_at seats c.loop-seat.seat-index) = c.from-all.ensures ∙ c.first.ensures in
    rw read (product_more first seats c.loop-seat.seat-index c.loop-seat.all (omega (arith, c.requires.columns.0)) c.loop-seat.invariant)

pub overflow_mul-all : goal.overflow_mul-all
overflow_mul-all c = omega (arith, product-within first c.args.self.now.seats (c.loop-seat.seat-index + 1) (c.loop-seat.all * c.from-all.result) c.requires.within.0 (next c), c.requires.within.1)

pub loop-seat-preserved : goal.loop-seat-preserved
loop-seat-preserved c = next c

pub returns : goal.returns
returns c =
    let seats = c.args.self.now.seats in
    let none = drop_all c.loop-seat.seat-index seats (omega (arith, c.requires.columns.0)) in
    sym (mul-one c.loop-seat.all) ∙ ap (λ xs. c.loop-seat.all * product first xs) (sym none) ∙ c.loop-seat.invariant
