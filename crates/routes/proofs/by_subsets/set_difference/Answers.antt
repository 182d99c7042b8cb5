-- The needs of `set_difference`.
use Rattle.std.proofs.Common.{◌≡◌, ℕ, ◌*◌, ◌^◌, ◌<◌, ◌≤◌, get_or, ℤ, pos, ◌+ℤ◌, ◌*ℤ◌, nat_abs, sym, ap, ◌∙◌, le_trans, le_of_eq, arith, w8, w64, SFits, to_z, of_z}
use Rattle.std.proofs.lemmas.Int.{to_z-of_z, to_z_pos}
use Rattle.patterns.specs.Seats.{seats, patterns}
use Rattle.patterns.specs.Patterns.{flags}
use Rattle.patterns.proofs.Loops.{abs_add}
use Rattle.weights.specs.Differences.{sign}
use Rattle.routes.proofs.Bits.{read, fits_known, read_known}
use Rattle.routes.proofs.Deltas.{sign-size}
use Rattle.routes.proofs.BySubsets.{difference_to, sign-times, difference-none, difference_next, difference_small, difference-all}
use Rattle.routes.proofs.by_subsets.set_difference.Goals as goal

pub loop-p-init : goal.loop-p-init
loop-p-init c = sym (difference-none seats (λ q. get_or c.args.shares.now.twentieths q 0) c.args.set)

-- what a turn adds, read back from its bits
sign_read : (r g : ℤ) (j p : ℕ) → SFits w8 g → r ≡ to_z w8 (of_z w8 g) → g ≡ sign (flags seats j) (flags seats p) → to_z w64 (of_z w64 r) ≡ sign (flags seats j) (flags seats p)
sign_read r g j p f widened e = ap (λ (z : ℤ). to_z w64 (of_z w64 z)) (widened ∙ to_z-of_z w8 g f ∙ e) ∙ read _ (le_trans (sign-size (flags seats j) (flags seats p)) (omega arith))

share_read : (s : ℕ) → s ≤ 20 → to_z w64 s ≡ pos s
share_read s h = to_z_pos w64 s (omega arith)

term_small : (j p s : ℕ) → s ≤ 20 → nat_abs (sign (flags seats j) (flags seats p) *ℤ pos s) ≤ 9 * 10 ^ 18
term_small j p s h = le_trans (sign-times (flags seats j) (flags seats p) s h) (omega arith)

added : (r : ℤ) (j p s : ℕ) → to_z w64 (of_z w64 r) ≡ sign (flags seats j) (flags seats p) → s ≤ 20
    → to_z w64 (of_z w64 (to_z w64 (of_z w64 r) *ℤ to_z w64 s)) ≡ sign (flags seats j) (flags seats p) *ℤ pos s
added r j p s e h = read_known ◌*ℤ◌ e (share_read s h) (term_small j p s h)

small : (j p : ℕ) (f : ℕ → ℕ) → ((q : ℕ) → f q ≤ 20) → p < patterns → nat_abs (difference_to seats f j p +ℤ sign (flags seats j) (flags seats p) *ℤ pos (f p)) ≤ 9 * 10 ^ 18
small j p f h q = omega (arith, abs_add (difference_to seats f j p) (sign (flags seats j) (flags seats p) *ℤ pos (f p)), difference_small seats f j h p, sign-times (flags seats j) (flags seats p) (f p) (h p))

pub overflow_mul-sum : goal.overflow_mul-sum
overflow_mul-sum c = fits_known ◌*ℤ◌ (sign_read c.from.result c.sign_of.result c.args.set c.loop-p.p (record { sfits = c.sign_of.type_inv }) c.from.ensures c.sign_of.ensures) (share_read _ (c.args.shares.now.most c.loop-p.p)) (term_small c.args.set c.loop-p.p _ (c.args.shares.now.most c.loop-p.p))

pub overflow_add-sum : goal.overflow_add-sum
overflow_add-sum c = fits_known ◌+ℤ◌ c.loop-p.invariant (added c.from.result c.args.set c.loop-p.p _ (sign_read c.from.result c.sign_of.result c.args.set c.loop-p.p (record { sfits = c.sign_of.type_inv }) c.from.ensures c.sign_of.ensures) (c.args.shares.now.most c.loop-p.p)) (small c.args.set c.loop-p.p (λ q. get_or c.args.shares.now.twentieths q 0) c.args.shares.now.most c.loop-p-test.true)

pub loop-p-preserved : goal.loop-p-preserved
loop-p-preserved c =
    let f = λ (q : ℕ). get_or c.args.shares.now.twentieths q 0 in
    read_known ◌+ℤ◌ c.loop-p.invariant (added c.from.result c.args.set c.loop-p.p _ (sign_read c.from.result c.sign_of.result c.args.set c.loop-p.p (record { sfits = c.sign_of.type_inv }) c.from.ensures c.sign_of.ensures) (c.args.shares.now.most c.loop-p.p)) (small c.args.set c.loop-p.p f c.args.shares.now.most c.loop-p-test.true) ∙ sym (difference_next seats f c.args.set c.loop-p.p)

pub returns : goal.returns
returns c =
    let f = λ (q : ℕ). get_or c.args.shares.now.twentieths q 0 in
    let e : c.loop-p.p ≡ patterns = omega arith in
    let v = c.loop-p.invariant ∙ ap (difference_to seats f c.args.set) e in
    record {
      value = v ∙ difference-all seats f c.args.set;
      bound = le_trans (le_of_eq (ap nat_abs v)) (difference_small seats f c.args.set c.args.shares.now.most patterns);
    }
