-- The needs of `sum_out`.
use Rattle.std.proofs.Common.{ℕ, ◌+◌, ◌*◌, ◌^◌, ◌≤◌, get_or, sym, refl, subst, arith}
use Rattle.weights.proofs.SumOut.{sum_next, pair_bound}
use Rattle.weights.proofs.by_patterns.sum_out.Goals as goal

pub overflow_add-sums-in-loop-p : goal.overflow_add-sums-in-loop-p
overflow_add-sums-in-loop-p c =
    let s = c.loop-p.invariant in
    let p = c.loop-p.p in
    let q = p + c.args.others in
    let P : ℕ → Type 0 = λ n. n * c.args.seat.present ≤ 2 * 10 ^ 17 in
    let a = subst P (sym (s.rest p (omega arith))) (c.requires.small p (omega arith)) in
    let b = subst P (sym (s.rest q (omega arith))) (c.requires.small q (omega arith)) in
    record { fits = omega (arith, pair_bound c.args.seat (get_or c.loop-p.sums p 0) (get_or c.loop-p.sums q 0) (2 * 10 ^ 17) c.requires.sound a b) }

pub loop-p-preserved : goal.loop-p-preserved
loop-p-preserved c = sum_next c.loop-p.invariant (omega arith) _ refl
