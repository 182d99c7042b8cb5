-- The needs of `by_patterns`.
use Rattle.std.proofs.Common.{◌≡◌, ℕ, ◌+◌, ◌*◌, ◌%◌, ◌^◌, ◌<◌, ◌≤◌, List, length, sym, ap, ◌∙◌, subst, le_trans, arith}
use Rattle.std.proofs.lemmas.List.{nil_from_length}
use Rattle.std.proofs.lemmas.Nat.{one_shl}
use Rattle.patterns.specs.Seats.{seats}
use Rattle.weights.proofs.ByPatterns.{Left, last_sound, pairs_fit, small, full_small, left_first, left_next, all_done}
use Rattle.weights.proofs.Forms.{D_pos}
use Rattle.weights.specs.declared.exposure.Exposure.{Exposure}
use Rattle.weights.proofs.by_patterns.by_patterns.Goals as goal

pub loop-seat-init : goal.loop-seat-init
loop-seat-init c =
    let x = c.args.exposures.now in
    let s = c.args.shares.now in
    record { long = s.long; few = omega (arith, x.long); left = left_first x.seats s.twentieths x.sound x.present (s.long ∙ sym (ap (λ (n : ℕ). 2 ^ n) x.long)) s.most }

pub overflow_shl-others : goal.overflow_shl-others
overflow_shl-others c = omega (arith, c.in-Some.ensures.cases.1, c.loop-seat.invariant.few)

pub sum_out-requires : goal.sum_out-requires
sum_out-requires c =
    let l = c.loop-seat.invariant.left in
    let o = c.in-Some.others.now in
    let e = c.in-Some.ensures.cases.0 in
    let s : 1 * 2 ^ length o % 2 ^ 64 ≡ 2 ^ length o = one_shl (length o) 64 (omega (arith, c.in-Some.ensures.cases.1, c.loop-seat.invariant.few)) in
    record {
      room = rw s (pairs_fit l o c.in-Some.seat.now e);
      sound = last_sound l o c.in-Some.seat.now e;
      small = rw s (λ p q. le_trans (small l o c.in-Some.seat.now e p q) (omega (arith, c.args.exposures.now.small)));
    }

pub overflow_mul-full : goal.overflow_mul-full
overflow_mul-full c =
    record { fits = omega (arith, full_small c.loop-seat.invariant.left c.in-Some.others.now c.in-Some.seat.now c.in-Some.ensures.cases.0, c.args.exposures.now.small) }

pub loop-seat-smaller : goal.loop-seat-smaller
loop-seat-smaller c = omega (arith, c.in-Some.ensures.cases.1)

pub loop-seat-preserved : goal.loop-seat-preserved
loop-seat-preserved c =
    let o = c.in-Some.others.now in
    let e : length c.sum_out.new.sums ≡ length c.loop-seat.sums = c.sum_out.auto.sums in
    let s : 1 * 2 ^ length o % 2 ^ 64 ≡ 2 ^ length o = one_shl (length o) 64 (omega (arith, c.in-Some.ensures.cases.1, c.loop-seat.invariant.few)) in
    record {
      long = e ∙ c.loop-seat.invariant.long;
      few = omega (arith, c.in-Some.ensures.cases.1);
      left = left_next c.loop-seat.invariant.left o c.in-Some.seat.now c.in-Some.ensures.cases.0 c.sum_out.new.sums e (rw s at c.sum_out.ensures);
    }

pub invariant_of-result : goal.invariant_of-result
invariant_of-result c =
    let x = c.args.exposures.now in
    let d = all_done (subst (λ (ys : List Exposure). Left x.seats c.args.shares.now.twentieths ys c.loop-seat.sums c.loop-seat.full) (nil_from_length c.loop-seat.left.now c.in_default.ensures.cases) c.loop-seat.invariant.left) in
    record { some = omega (arith, d.product, D_pos x.seats x.present); most = omega (arith, d.product, x.small); part = d.part }

pub returns : goal.returns
returns c =
    let x = c.args.exposures.now in
    let d = all_done (subst (λ (ys : List Exposure). Left x.seats c.args.shares.now.twentieths ys c.loop-seat.sums c.loop-seat.full) (nil_from_length c.loop-seat.left.now c.in_default.ensures.cases) c.loop-seat.invariant.left) in
    record { weight = d.value; full = d.product }
