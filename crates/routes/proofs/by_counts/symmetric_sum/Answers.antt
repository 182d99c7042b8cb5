-- The needs of `symmetric_sum`.
use Rattle.std.proofs.lemmas.Nat.{ones-le}
use Rattle.std.proofs.Common.{◌≡◌, ℕ, ◌+◌, sym, ap, ◌∙◌, ap₂, add-zero, arith}
use Rattle.patterns.specs.Seats.{seats, patterns}
use Rattle.patterns.specs.Patterns.{below}
use Rattle.patterns.proofs.Loops.{below_none, below_next}
use Rattle.routes.proofs.ByCounts.{members_term, members_yes, members_no, members_whole, members_part}
use Rattle.routes.proofs.by_counts.symmetric_sum.Goals as goal
use Rattle.routes.proofs.by_counts.symmetric_sum.Goals.{then-set-members, else-set-members}

pub loop-set-init : goal.loop-set-init
loop-set-init c = sym (below_none ◌+◌ 0 (members_term c.args.exposures.now.seats seats c.args.members))

pub overflow_cast-set : goal.overflow_cast-set
overflow_cast-set c = record { fits = omega (arith, ones-le seats c.loop-set.set c.loop-set-test.true) }

pub overflow_add-sum : goal.overflow_add-sum
overflow_add-sum c =
    let x = c.args.exposures.now in
    let e = c.set_product-sum.ensures.value ∙ sym (members_yes x.seats seats c.args.members c.loop-set.set c.loop-set-test.true c.if-set-members.true) in
    record { fits = omega (arith, ap₂ ◌+◌ c.loop-set.invariant e, members_part x.seats seats c.args.members x.long x.sound c.loop-set.set c.loop-set-test.true, x.small) }

pub loop-set-preserved : goal.loop-set-preserved
loop-set-preserved c =
    let x = c.args.exposures.now in
    let next = sym (below_next ◌+◌ 0 (members_term x.seats seats c.args.members) c.loop-set.set) in
    elim c.if-set-members.branch [
      | then-set-members w ↦ w.sum-is ∙ ap₂ ◌+◌ c.loop-set.invariant (w.set_product-sum.ensures.value ∙ sym (members_yes x.seats seats c.args.members c.loop-set.set c.loop-set-test.true w.if-set-members.true)) ∙ next
      | else-set-members w ↦ w.sum-is ∙ sym (add-zero c.loop-set.sum) ∙ ap₂ ◌+◌ c.loop-set.invariant (sym (members_no x.seats seats c.args.members c.loop-set.set c.loop-set-test.true w.if-set-members.false)) ∙ next
    ]

pub returns : goal.returns
returns c =
    let x = c.args.exposures.now in
    let e : c.loop-set.set ≡ patterns = omega arith in
    c.loop-set.invariant ∙ ap (λ (m : ℕ). below ◌+◌ 0 m (members_term x.seats seats c.args.members)) e ∙ members_whole x.seats seats c.args.members x.long
