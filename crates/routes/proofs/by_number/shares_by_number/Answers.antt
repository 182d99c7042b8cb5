-- The needs of `shares_by_number`.
use Rattle.std.proofs.lemmas.Nat.{ones-le}
use Rattle.std.proofs.Common.{◌≡◌, ℕ, ◌+◌, List, get_or, sym, subst, le_trans, le_of_eq, arith}
use Rattle.patterns.specs.Seats.{seats, patterns}
use Rattle.weights.proofs.Evens.{share_le}
use Rattle.routes.proofs.ByNumber.{Tabled, tabled_none, tabled_in, tabled_out, tabled_all}
use Rattle.routes.proofs.by_number.shares_by_number.Goals as goal
use Rattle.routes.proofs.by_number.shares_by_number.Goals.{then-p-named, else-p-named}

pub loop-p-init : goal.loop-p-init
loop-p-init c = tabled_none seats (λ q. get_or c.args.shares.now.twentieths q 0) c.args.named

pub overflow_cast-twentieths : goal.overflow_cast-twentieths
overflow_cast-twentieths c = record { fits = omega (arith, ones-le seats c.loop-p.p c.loop-p-test.true) }

pub bounds-twentieths-p : goal.bounds-twentieths-p
bounds-twentieths-p c = omega (arith, ones-le seats c.loop-p.p c.loop-p-test.true)

pub loop-p-preserved : goal.loop-p-preserved
loop-p-preserved c =
    let P : List ℕ → Type 0 = λ xs. Tabled seats (λ q. get_or c.args.shares.now.twentieths q 0) c.args.named (c.loop-p.p + 1) xs in
    elim c.if-p-named.branch [
      | then-p-named w ↦ subst P (sym w.twentieths-is) (tabled_in c.loop-p.invariant c.loop-p-test.true w.if-p-named.true)
      | else-p-named w ↦ subst P (sym w.twentieths-is) (tabled_out c.loop-p.invariant c.loop-p-test.true w.if-p-named.false)
    ]

pub invariant_of-result : goal.invariant_of-result
invariant_of-result c =
    let s = c.args.shares.now in
    let e : c.loop-p.p ≡ patterns = omega arith in
    let t = tabled_all e c.loop-p.invariant in
    record { long = t.long; most = (λ k. le_trans (le_of_eq (t.is k)) (share_le seats (λ q. get_or s.twentieths q 0) c.args.named patterns k 20 s.most)) }

pub returns : goal.returns
returns c =
    let e : c.loop-p.p ≡ patterns = omega arith in
    (tabled_all e c.loop-p.invariant).is
