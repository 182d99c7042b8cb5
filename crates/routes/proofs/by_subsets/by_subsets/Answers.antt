-- The needs of `by_subsets`.
use Rattle.std.proofs.Common.{◌≡◌, ℕ, ◌*◌, ◌^◌, ◌≤◌, get_or, ℤ, pos, ◌+ℤ◌, ◌*ℤ◌, nat_abs, sym, ap, ◌∙◌, ap₂, le_trans, le_of_eq, mul-le-mul, arith, w64, to_z, of_z}
use Rattle.std.proofs.lemmas.Int.{to_z_pos}
use Rattle.patterns.specs.Seats.{seats, patterns}
use Rattle.patterns.specs.Patterns.{number, below}
use Rattle.patterns.proofs.Loops.{below_none, below_next}
use Rattle.weights.proofs.Subsets.{subsets}
use Rattle.weights.proofs.Bounds.{abs_times, patterns_bound}
use Rattle.routes.proofs.Bits.{read, fits_known, read_known}
use Rattle.routes.proofs.BySubsets.{set_term, sets_part, sets_done}
use Rattle.routes.proofs.by_subsets.by_subsets.Goals as goal

pub loop-set-init : goal.loop-set-init
loop-set-init c = sym (below_none ◌+ℤ◌ (pos 0) _)

-- the two factors of a turn, read back from their bits
left : (c : goal.After-set_product) → to_z w64 (of_z w64 c.set_difference.result) ≡ c.set_difference.result
left c = read c.set_difference.result (omega (arith, c.set_difference.ensures.bound))

right : (c : goal.After-set_product) → to_z w64 c.set_product.result ≡ pos c.set_product.result
right c = to_z_pos w64 c.set_product.result (omega (arith, c.set_product.ensures.bound, c.args.exposures.now.small))

product_small : (c : goal.After-set_product) → nat_abs (c.set_difference.result *ℤ pos c.set_product.result) ≤ 9 * 10 ^ 18
product_small c =
    le_trans (le_of_eq (abs_times c.set_difference.result c.set_product.result))
    (le_trans (mul-le-mul c.set_difference.ensures.bound (le_trans c.set_product.ensures.bound c.args.exposures.now.small)) (omega arith))

pub overflow_mul-sum : goal.overflow_mul-sum
overflow_mul-sum c = fits_known ◌*ℤ◌ (left c) (right c) (product_small c)

added : (c : goal.After-set_product) → to_z w64 (of_z w64 (to_z w64 (of_z w64 c.set_difference.result) *ℤ to_z w64 c.set_product.result))
    ≡ set_term c.args.exposures.now.seats seats (λ q. get_or c.args.shares.now.twentieths q 0) c.loop-set.set
unfolding set_term
added c = read_known ◌*ℤ◌ (left c) (right c) (product_small c) ∙ ap₂ (λ (d : ℤ) (n : ℕ). d *ℤ pos n) c.set_difference.ensures.value c.set_product.ensures.value

small : (c : goal.After-set_product) → nat_abs (below ◌+ℤ◌ (pos 0) c.loop-set.set (set_term c.args.exposures.now.seats seats (λ q. get_or c.args.shares.now.twentieths q 0)) +ℤ set_term c.args.exposures.now.seats seats (λ q. get_or c.args.shares.now.twentieths q 0) c.loop-set.set) ≤ 9 * 10 ^ 18
small c =
    let x = c.args.exposures.now in
    let s = c.args.shares.now in
    omega (arith, sets_part x.seats seats (λ q. get_or s.twentieths q 0) x.long x.sound s.most c.loop-set.set c.loop-set-test.true, x.small)

pub overflow_add-sum : goal.overflow_add-sum
overflow_add-sum c = fits_known ◌+ℤ◌ c.loop-set.invariant (added c) (small c)

pub loop-set-preserved : goal.loop-set-preserved
loop-set-preserved c = read_known ◌+ℤ◌ c.loop-set.invariant (added c) (small c) ∙ sym (below_next ◌+ℤ◌ (pos 0) _ c.loop-set.set)

pub weight_of-requires : goal.weight_of-requires
weight_of-requires c =
    let x = c.args.exposures.now in
    let s = c.args.shares.now in
    let e : c.loop-set.set ≡ patterns = omega arith in
    let z = sets_done x.seats seats (λ q. get_or s.twentieths q 0) x.long _ c.loop-set.set c.loop-set.invariant e ∙ subsets x.seats (λ P. get_or s.twentieths (number P) 0) x.sound in
    record {
      whole = z ∙ sym (ap (λ (y : ℤ). pos (nat_abs y)) z);
      part = le_trans (le_of_eq (ap nat_abs z)) (patterns_bound 20 x.seats (λ P. get_or s.twentieths (number P) 0) x.sound (λ P. s.most (number P)));
    }

pub returns : goal.returns
returns c =
    let x = c.args.exposures.now in
    let s = c.args.shares.now in
    let e : c.loop-set.set ≡ patterns = omega arith in
    let z = c.weight_of.ensures.weight ∙ sets_done x.seats seats (λ q. get_or s.twentieths q 0) x.long _ c.loop-set.set c.loop-set.invariant e in
    record { route = z; sum = ap nat_abs (z ∙ subsets x.seats (λ P. get_or s.twentieths (number P) 0) x.sound); full = c.weight_of.ensures.full }
