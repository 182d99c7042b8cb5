-- The needs of `test_seats`.
use Rattle.std.proofs.Common.{◌≡◌, ℕ, ◌<◌, true, false, length, sym, ap, ◌∙◌, subst, rules, arith}
use Rattle.patterns.specs.Seats.{seats}
use Rattle.patterns.specs.Anys.{any_to}
use Rattle.patterns.proofs.Anys.{any_found, any_empty, any_past}
use Rattle.seats.specs.declared.seat.Seat.{Seat}
use Rattle.cases.specs.Views.{book_of}
use Rattle.cases.specs.Weighing.{vacant_at}
use Rattle.cases.proofs.Supposed.{supposed_vacant}
use Rattle.cases.proofs.inforce.view.View.test_seats.Goals as goal

pub loop-i-init : goal.loop-i-init
loop-i-init c = any_empty (vacant_at (book_of c.args.self.now) c.named-named.result)

pub loop-i-preserved : goal.loop-i-preserved
loop-i-preserved c =
    let v = c.args.self.now in
    let held : c.loop-i.i < length v.case.now.table.seats = omega (arith, c.loop-i-test.true, ap (length {A = Seat}) c.records-seat-items.ensures) in
    any_past (vacant_at (book_of c.args.self.now) c.named-named.result) c.loop-i.i c.loop-i.invariant
    (supposed_vacant v c.named-named.result c.loop-i.i held ∙ sym (rw c.records-seat-items.ensures at c.is_vacant.ensures) ∙ c.if-is_vacant.false)

pub returns-then-is_vacant : goal.returns-then-is_vacant
returns-then-is_vacant c =
    let test = λ (N : ℕ). vacant_at (book_of c.args.self.now) N in
    let v = c.args.self.now in
    let held : c.loop-i.i < length v.case.now.table.seats = omega (arith, c.loop-i-test.true, ap (length {A = Seat}) c.records-seat-items.ensures) in
    let here : c.loop-i.i < seats = omega (arith, c.loop-i-test.true, ap (length {A = Seat}) c.records-seat-items.ensures, c.args.self.now.case.now.columns.0) in
    let found : any_to seats (test c.args.benefit.now.named) ≡ true = ap (λ (N : ℕ). any_to seats (test N)) (sym c.named-named.ensures) ∙ any_found (test c.named-named.result) seats c.loop-i.i here (supposed_vacant v c.named-named.result c.loop-i.i held ∙ sym (rw c.records-seat-items.ensures at c.is_vacant.ensures) ∙ c.if-is_vacant.true) in
    search rules

pub returns : goal.returns
returns c =
    let test = λ (N : ℕ). vacant_at (book_of c.args.self.now) N in
    let all : c.loop-i.i ≡ seats = omega (arith, c.loop-i-test.false, ap (length {A = Seat}) c.records-seat-items.ensures, c.args.self.now.case.now.columns.0) in
    let none : any_to seats (test c.args.benefit.now.named) ≡ false = ap (λ (N : ℕ). any_to seats (test N)) (sym c.named-named.ensures) ∙ subst (λ (n : ℕ). any_to n (test c.named-named.result) ≡ false) all c.loop-i.invariant in
    search rules
