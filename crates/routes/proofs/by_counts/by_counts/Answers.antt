-- The needs of `by_counts`.
use Rattle.std.proofs.Common.{◌≡◌, ℕ, ◌+◌, ◌*◌, ◌^◌, ◌≤◌, get_or, ℤ, pos, ◌+ℤ◌, ◌*ℤ◌, nat_abs, sym, ap, ◌∙◌, subst, le_trans, le_of_eq, mul-le-mul_left, arith, w64, to_z, of_z}
use Rattle.std.proofs.lemmas.Int.{to_z-of_z, to_z_pos}
use Rattle.patterns.specs.Seats.{seats}
use Rattle.patterns.specs.Patterns.{size, below}
use Rattle.patterns.proofs.Loops.{below_none, below_next}
use Rattle.weights.specs.Exposures.{D}
use Rattle.weights.specs.Differences.{Δ}
use Rattle.weights.specs.AllSeats.{S}
use Rattle.weights.proofs.Counts.{counts}
use Rattle.weights.proofs.Bounds.{patterns_bound, S_bound}
use Rattle.routes.proofs.Bits.{fits_abs, fits_known, read_known}
use Rattle.routes.proofs.ByCounts.{order_term, orders_part, order_small, orders_done}
use Rattle.routes.proofs.by_counts.by_counts.Goals as goal

pub loop-j-init : goal.loop-j-init
loop-j-init c = sym (below_none ◌+ℤ◌ (pos 0) _)

-- the two factors of a turn, read back from their bits
S_small : (c : goal.After-symmetric_sum) → c.symmetric_sum.result ≤ 2 ^ seats * 10 ^ 16
S_small c =
    let x = c.args.exposures.now in
    le_trans (le_of_eq c.symmetric_sum.ensures)
    (le_trans (subst (λ (n : ℕ). S x.seats c.loop-j.j ≤ 2 ^ n * D x.seats) x.long (S_bound x.seats c.loop-j.j x.sound)) (mul-le-mul_left (2 ^ seats) x.small))

left : (c : goal.After-symmetric_sum) → to_z w64 (of_z w64 c.difference_at.result) ≡ Δ c.loop-j.j (λ i. get_or c.args.shares.now.twentieths i 0) 0
left c = to_z-of_z w64 c.difference_at.result (record { sfits = c.difference_at.type_inv }) ∙ c.difference_at.ensures

right : (c : goal.After-symmetric_sum) → to_z w64 c.symmetric_sum.result ≡ pos (S c.args.exposures.now.seats c.loop-j.j)
right c = to_z_pos w64 c.symmetric_sum.result (omega (arith, S_small c)) ∙ ap pos c.symmetric_sum.ensures

term_small : (c : goal.After-symmetric_sum) → nat_abs (Δ c.loop-j.j (λ i. get_or c.args.shares.now.twentieths i 0) 0 *ℤ pos (S c.args.exposures.now.seats c.loop-j.j)) ≤ 9 * 10 ^ 18
unfolding order_term
term_small c =
    let x = c.args.exposures.now in
    let s = c.args.shares.now in
    omega (arith, order_small x.seats (λ i. get_or s.twentieths i 0) seats x.long x.sound s.most c.loop-j.j, x.small)

pub overflow_cast-sum : goal.overflow_cast-sum
overflow_cast-sum c = fits_abs (pos c.symmetric_sum.result) (omega (arith, S_small c))

pub overflow_mul-sum : goal.overflow_mul-sum
overflow_mul-sum c = fits_known ◌*ℤ◌ (left c) (right c) (term_small c)

added : (c : goal.After-symmetric_sum) → to_z w64 (of_z w64 (to_z w64 (of_z w64 c.difference_at.result) *ℤ to_z w64 c.symmetric_sum.result)) ≡ order_term c.args.exposures.now.seats (λ i. get_or c.args.shares.now.twentieths i 0) c.loop-j.j
unfolding order_term
added c = read_known ◌*ℤ◌ (left c) (right c) (term_small c)

small : (c : goal.After-symmetric_sum) → nat_abs (below ◌+ℤ◌ (pos 0) c.loop-j.j (order_term c.args.exposures.now.seats (λ i. get_or c.args.shares.now.twentieths i 0)) +ℤ order_term c.args.exposures.now.seats (λ i. get_or c.args.shares.now.twentieths i 0) c.loop-j.j) ≤ 9 * 10 ^ 18
small c =
    let x = c.args.exposures.now in
    let s = c.args.shares.now in
    omega (arith, orders_part x.seats (λ i. get_or s.twentieths i 0) seats x.long x.sound s.most c.loop-j.j, x.small)

pub overflow_add-sum : goal.overflow_add-sum
overflow_add-sum c = fits_known ◌+ℤ◌ c.loop-j.invariant (added c) (small c)

pub loop-j-preserved : goal.loop-j-preserved
loop-j-preserved c = read_known ◌+ℤ◌ c.loop-j.invariant (added c) (small c) ∙ sym (below_next ◌+ℤ◌ (pos 0) _ c.loop-j.j)

pub weight_of-requires : goal.weight_of-requires
weight_of-requires c =
    let x = c.args.exposures.now in
    let s = c.args.shares.now in
    let e : c.loop-j.j ≡ seats + 1 = omega arith in
    let z = orders_done x.seats (λ i. get_or s.twentieths i 0) seats x.long _ c.loop-j.j c.loop-j.invariant e ∙ counts x.seats (λ i. get_or s.twentieths i 0) x.sound in
    record {
      whole = z ∙ sym (ap (λ (y : ℤ). pos (nat_abs y)) z);
      part = le_trans (le_of_eq (ap nat_abs z)) (patterns_bound 20 x.seats (λ P. get_or s.twentieths (size P) 0) x.sound (λ P. s.most (size P)));
    }

pub returns : goal.returns
returns c =
    let x = c.args.exposures.now in
    let s = c.args.shares.now in
    let e : c.loop-j.j ≡ seats + 1 = omega arith in
    let z = c.weight_of.ensures.weight ∙ orders_done x.seats (λ i. get_or s.twentieths i 0) seats x.long _ c.loop-j.j c.loop-j.invariant e in
    record { route = z; sum = ap nat_abs (z ∙ counts x.seats (λ i. get_or s.twentieths i 0) x.sound); full = c.weight_of.ensures.full }
