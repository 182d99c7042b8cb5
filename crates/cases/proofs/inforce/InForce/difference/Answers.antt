-- The needs of `difference`.
use Rattle.std.proofs.lemmas.Nat.{ones-le}
use Rattle.std.proofs.Common.{ℕ, ◌<◌, ◌≤◌, get_or, ap, ◌∙◌, subst, arith, w64}
use lib.Count.{ones}
use Rattle.std.proofs.lemmas.Int.{to_z-of_z}
use Rattle.patterns.specs.Seats.{seats}
use Rattle.weights.specs.Numbers.{share_with}
use Rattle.cases.specs.Views.{shown_book}
use Rattle.cases.proofs.Routes.{difference_is, difference_past, difference-here}
use Rattle.cases.proofs.inforce.InForce.difference.Goals as goal

pub overflow_cast-named : goal.overflow_cast-named
overflow_cast-named c =
    let x = c.args.benefit.now in
    record { fits = omega (arith, ap ones c.named.ensures, ones-le seats x.named x.seats) }

pub returns-then-order-named : goal.returns-then-order-named
returns-then-order-named c =
    let x = c.args.benefit.now in
    difference_is (shown_book c.args.self.now) x c.args.order _ (rw c.as_supposed.ensures.book at c.in_ok-test_seats.ensures) c.in_ok-test_number.ensures
    (difference_past x c.args.order (subst (λ (N : ℕ). ones N < c.args.order) c.named.ensures c.if-order-named.true))

pub returns : goal.returns
returns c =
    let x = c.args.benefit.now in
    let by_number = λ (k : ℕ). c.shares_by_number.ensures k ∙ (λ i. share_with seats (λ p. get_or (c.shares.ensures i).twentieths p 0) (c.named-2.ensures i) k) in
    difference_is (shown_book c.args.self.now) x c.args.order _ (rw c.as_supposed.ensures.book at c.in_ok-test_seats.ensures) c.in_ok-test_number.ensures
    (to_z-of_z w64 c.difference.result (record { sfits = c.difference.type_inv })
    ∙ difference-here x c.args.order c.difference.result (λ k. get_or c.shares_by_number.result.twentieths k 0) (subst (λ (N : ℕ). c.args.order ≤ ones N) c.named.ensures c.if-order-named.false) by_number c.difference.ensures)
