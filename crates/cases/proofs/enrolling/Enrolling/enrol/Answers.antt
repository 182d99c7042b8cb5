-- What is left to show of `Enrolling::enrol`.
use Rattle.std.proofs.Common.{ℕ, List, get_or, set, sym, ap, ◌∙◌, subst, arith}
use Rattle.lives.specs.Column.{column}
use Rattle.lives.proofs.Columns.{column_long, column-falls}
use Rattle.refusals.specs.declared.Refusal.TheVariants.{NoCount, ProductTooLarge}
use Rattle.seats.specs.Seats.{living, first, Columns, Within}
use Rattle.cases.specs.Book.{opened, enrol}
use Rattle.cases.proofs.Judging.{refused, accepted, enrol_uncounted, enrol_too_large, enrol_accepted}
use Rattle.cases.proofs.Sounds.{columns_set, enrolled-within, worked}
use Rattle.cases.proofs.enrolling.Enrolling.enrol.Goals as goal

pub returns-then-first-eq0 : goal.returns-then-first-eq0
returns-then-first-eq0 g c =
    let xs = c.args.self.now.table.seats in
    let counts = column (g.L.Life.count c.args.life.now) in
    let zeroth = ap (λ (ys : List ℕ). get_or ys 0 0) c.column-counts.ensures in
    let empty = rw c.in_ok-seat.ensures.0 at (sym c.in-Empty.ensures) in
    let no = enrol_uncounted xs c.args.seat c.in_ok-seat.ensures.1 counts empty (omega (arith, zeroth)) in
    record { answer = sym no; after = sym (refused (enrol c.args.seat counts) (opened xs) NoCount no) }

pub returns-then-from-gt-GREATEST : goal.returns-then-from-gt-GREATEST
returns-then-from-gt-GREATEST g c =
    let was = c.args.self.now in
    let xs = was.table.seats in
    let counts = column (g.L.Life.count c.args.life.now) in
    let zeroth = ap (λ (ys : List ℕ). get_or ys 0 0) c.column-counts.ensures in
    let empty = rw c.in_ok-seat.ensures.0 at (sym c.in-Empty.ensures) in
    let p = worked xs c.args.seat counts c.from.result c.from-2.result was.columns c.in_ok-seat.ensures.1 empty (c.from.ensures ∙ zeroth) (c.from-2.ensures ∙ c.product.ensures) in
    let no = enrol_too_large xs c.args.seat c.in_ok-seat.ensures.1 counts empty (λ e. c.if-first-eq0.false (zeroth ∙ e)) (omega (arith, p)) in
    record { answer = sym no; after = sym (refused (enrol c.args.seat counts) (opened xs) ProductTooLarge no) }

pub invariant_of-self : goal.invariant_of-self
invariant_of-self g c =
    let was = c.args.self.now in
    let xs = was.table.seats in
    let life = c.args.life.now in
    let f = g.L.Life.count life in
    let zeroth = ap (λ (ys : List ℕ). get_or ys 0 0) c.column-counts.ensures in
    let empty = rw c.in_ok-seat.ensures.0 at (sym c.in-Empty.ensures) in
    let p = worked xs c.args.seat (column f) c.from.result c.from-2.result was.columns c.in_ok-seat.ensures.1 empty (c.from.ensures ∙ zeroth) (c.from-2.ensures ∙ c.product.ensures) in
    let is = sym ((rw c.in_ok-seat.ensures.0 at c.seat.ensures) ∙ ap (λ ys. set xs c.args.seat (living ys)) c.column-counts.ensures) in record { columns = subst Columns is (columns_set xs c.args.seat (living (column f)) (column_long f) (column-falls f (g.met.L.Life.ended life) (g.met.L.Life.falling life)) was.columns); within = subst (Within first) is (enrolled-within xs c.args.seat (column f) (omega (arith, zeroth, c.if-first-eq0.false)) (omega (arith, p)) was.within) }

pub returns : goal.returns
returns g c =
    let was = c.args.self.now in
    let xs = was.table.seats in
    let counts = column (g.L.Life.count c.args.life.now) in
    let zeroth = ap (λ (ys : List ℕ). get_or ys 0 0) c.column-counts.ensures in
    let empty = rw c.in_ok-seat.ensures.0 at (sym c.in-Empty.ensures) in
    let p = worked xs c.args.seat counts c.from.result c.from-2.result was.columns c.in_ok-seat.ensures.1 empty (c.from.ensures ∙ zeroth) (c.from-2.ensures ∙ c.product.ensures) in
    let ok = enrol_accepted xs c.args.seat c.in_ok-seat.ensures.1 counts empty (λ e. c.if-first-eq0.false (zeroth ∙ e)) (omega (arith, p)) in
    record { answer = sym ok; after = ap opened ((rw c.in_ok-seat.ensures.0 at c.seat.ensures) ∙ ap (λ ys. set xs c.args.seat (living ys)) c.column-counts.ensures) ∙ sym (accepted (enrol c.args.seat counts) (opened xs) ok) }
