-- The needs of `probability`.
use Rattle.std.proofs.Common.{◌≡◌, ℕ, ◌+◌, ◌*◌, ◌/◌, ◌%◌, ◌^◌, ◌<◌, sym, refl, ap, ◌∙◌, ap₂, le_trans, le_of_eq, arith}
use Rattle.annuities.proofs.Decimals.{no_digit, all_rest, all_of, next_digit, next_rest, digits_below}
use Rattle.annuities.proofs.cuts.probability.Goals as goal

pub overflow_mul-part : goal.overflow_mul-part
overflow_mul-part c =
    let w = c.args.weight.now in
    record { fits = omega (arith, c.loop-place.invariant.0, digits_below w.weight w.full c.loop-place._place w.part (omega arith)) }

pub overflow_add-part : goal.overflow_add-part
overflow_add-part c =
    let w = c.args.weight.now in
    let e = ap₂ (λ (q r : ℕ). q * 10 + r * 10 / w.full) c.loop-place.invariant.0 c.loop-place.invariant.1 ∙ next_digit w.weight w.full c.loop-place._place w.some in
    record { fits = omega (arith, e, digits_below w.weight w.full (c.loop-place._place + 1) w.part (omega arith)) }

pub loop-place-preserved : goal.loop-place-preserved
loop-place-preserved c =
    let w = c.args.weight.now in (
      ap₂ (λ (q r : ℕ). q * 10 + r * 10 / w.full) c.loop-place.invariant.0 c.loop-place.invariant.1 ∙ next_digit w.weight w.full c.loop-place._place w.some,
      ap (λ (r : ℕ). r * 10 % w.full) c.loop-place.invariant.1 ∙ next_rest w.weight w.full c.loop-place._place w.some,
    )

pub returns : goal.returns
returns c =
    let w = c.args.weight.now in
    let e : c.loop-place._place ≡ 8 = omega arith in
    let v = c.loop-place.invariant.0 ∙ ap (λ (n : ℕ). w.weight * 10 ^ n / w.full) e in
    record { value = v; bound = le_trans (le_of_eq v) (digits_below w.weight w.full 8 w.part (omega arith)) }

pub returns-then-weight-le-FEW : goal.returns-then-weight-le-FEW
returns-then-weight-le-FEW c =
    let w = c.args.weight.now in
    record { value = refl; bound = digits_below w.weight w.full 8 w.part (omega arith) }

pub loop-place-init : goal.loop-place-init
loop-place-init c =
    let w = c.args.weight.now in
    let less : w.weight < w.full = omega (arith, w.part, c.if-weight-full.false) in
    (no_digit w.weight w.full less, all_rest w.weight w.full less)

pub returns-then-weight-full : goal.returns-then-weight-full
returns-then-weight-full c =
    let w = c.args.weight.now in
    record { value = all_of w.full w.some ∙ sym (ap (λ (k : ℕ). k * 100000000 / w.full) c.if-weight-full.true); bound = omega arith }
