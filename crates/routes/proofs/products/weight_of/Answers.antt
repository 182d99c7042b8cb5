-- The needs of `weight_of`.
use Rattle.std.proofs.Common.{◌≡◌, ℕ, ◌*◌, ℤ, pos, nat_abs, sym, ap, ◌∙◌, arith, w64, to_z, of_z}
use Rattle.std.proofs.lemmas.Int.{to_z-of_z}
use Rattle.weights.specs.Exposures.{D}
use Rattle.weights.proofs.Forms.{D_pos}
use Rattle.routes.proofs.Running.{product-none}
use Rattle.routes.proofs.products.weight_of.Goals as goal

pub invariant_of-result : goal.invariant_of-result
invariant_of-result c =
    let x = c.args.exposures.now in
    let full : c.set_product.result ≡ D x.seats = c.set_product.ensures.value ∙ product-none x.seats _ x.long in
    let weight : nat_abs (to_z w64 (of_z w64 c.args.sum)) ≡ nat_abs c.args.sum = ap nat_abs (to_z-of_z w64 c.args.sum c.ranges.sum) in
    record { some = omega (arith, D_pos x.seats x.present); most = omega (arith, x.small); part = omega (arith, c.requires.part) }

pub returns : goal.returns
returns c =
    let x = c.args.exposures.now in
    record {
      weight = ap (λ (z : ℤ). pos (nat_abs z)) (to_z-of_z w64 c.args.sum c.ranges.sum) ∙ sym c.requires.whole;
      full = ap (λ (n : ℕ). 20 * n) (c.set_product.ensures.value ∙ product-none x.seats _ x.long);
    }
