-- The needs of `yearly`.
use Rattle.std.proofs.Common.{ℕ, ◌*◌, ◌/◌, ◌^◌, sym, ap, subst}
use Rattle.annuities.specs.Values.{Cut}
use Rattle.annuities.proofs.Quotients.{cuts, at_most_one}
use Rattle.annuities.proofs.cuts.yearly.Goals as goal

pub returns : goal.returns
returns c =
    let w = c.args.weight.now in
    let v = c.args.discount.worth in
    let e = ap (λ (q : ℕ). q * v / 10 ^ 8) c.probability.ensures.value in
    let cut = subst (Cut w.weight w.full v) (sym e) (cuts w.weight v w.full w.some c.args.discount.most) in
    record { value = e; bound = at_most_one w.some w.part c.args.discount.most cut; cut = cut }
