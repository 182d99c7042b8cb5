-- The needs of `set_product`.
use Rattle.std.proofs.Common.{◌≡◌, ℕ, ◌+◌, ◌/◌, ◌%◌, ◌^◌, ◌<◌, ◌≤◌, ◌≢◌, length, sym, ap, ◌∙◌, subst, arith}
use native.Mathlib.Nat.{div-one}
use Rattle.std.proofs.lemmas.Bool.{eqb-true, eqb-false}
use Rattle.patterns.specs.Patterns.{flags}
use Rattle.weights.specs.Exposures.{counted, standing, seat_at}
use Rattle.weights.specs.Patterns.{times}
use Rattle.routes.proofs.Running.{Running, half_of, start, fits_here, take_in, leave_out, done}
use Rattle.routes.proofs.products.set_product.Goals as goal
use Rattle.routes.proofs.products.set_product.Goals.{then-is_member, else-is_member}

pub loop-i-init : goal.loop-i-init
loop-i-init c =
    let ls = c.args.exposures.now.seats in
    subst (Running counted standing ls c.args.set 0 1) (sym (div-one c.args.set)) (start counted standing ls c.args.set)

pub overflow_mul-product : goal.overflow_mul-product
overflow_mul-product c =
    let x = c.args.exposures.now in
    let h : c.loop-i.i < length x.seats = omega (arith, x.long) in
    record { fits = omega (arith, fits_here c.loop-i.invariant h x.present (seat_at x.seats c.loop-i.i).count (x.sound c.loop-i.i), x.small) }

pub overflow_mul-product-else-is_member : goal.overflow_mul-product-else-is_member
overflow_mul-product-else-is_member c =
    let x = c.args.exposures.now in
    let h : c.loop-i.i < length x.seats = omega (arith, x.long) in
    record { fits = omega (arith, fits_here c.loop-i.invariant h x.present (seat_at x.seats c.loop-i.i).present (omega arith), x.small) }

pub loop-i-preserved : goal.loop-i-preserved
loop-i-preserved c =
    let x = c.args.exposures.now in
    let i = c.loop-i.i in
    let h : i < length x.seats = omega (arith, x.long) in
    let p = c.args.set in
    let P : ℕ → Type 0 = λ n. Running counted standing x.seats p (i + 1) n (p / 2 ^ (i + 1)) in
    let next = λ (n : ℕ) (r : Running counted standing x.seats p (i + 1) n (p / 2 ^ i / 2)). subst (Running counted standing x.seats p (i + 1) n) (half_of p i) r in
    elim c.if-is_member.branch [
      | then-is_member w ↦
          let e : p / 2 ^ i % 2 ≡ 1 = eqb-true _ _ (sym c.is_member.ensures ∙ w.if-is_member.true) in
          subst P (sym w.product-is) (next _ (take_in c.loop-i.invariant h e (x.sound i)))
      | else-is_member w ↦
          let other : p / 2 ^ i % 2 ≢ 1 = eqb-false _ _ (sym c.is_member.ensures ∙ w.if-is_member.false) in
          let e : p / 2 ^ i % 2 ≡ 0 = omega arith in
          let g : standing (seat_at x.seats i) ≤ (seat_at x.seats i).present = omega arith in
          subst P (sym w.product-is) (next _ (leave_out c.loop-i.invariant h e g))
    ]

pub returns : goal.returns
returns c =
    let x = c.args.exposures.now in
    let e : c.loop-i.i ≡ length x.seats = omega (arith, x.long) in
    let r = done counted standing x.seats c.args.set c.loop-i.product (c.args.set / 2 ^ length x.seats)
    (subst (λ (i : ℕ). Running counted standing x.seats c.args.set i c.loop-i.product (c.args.set / 2 ^ i)) e c.loop-i.invariant) in
    record { value = r.0 ∙ ap (λ (n : ℕ). times counted standing x.seats (flags n c.args.set)) x.long; bound = r.1 }
