-- What is left to show of `amount_and_clauses`.
use Rattle.std.proofs.Common.{length, sym, refl, ap, ◌∙◌, arith, ltb-false, ltb-true}
use Rattle.std.proofs.lemmas.Result.{err_from_is_err_and}
use Rattle.schemes.specs.Syntax.{first_field}
use Rattle.schemes.proofs.Fielding.{amount_is, clauses_is}
use Rattle.schemes.proofs.reading.amount_and_clauses.Goals as goal

pub returns-in_err-amount : goal.returns-in_err-amount
returns-in_err-amount c =
    let p = err_from_is_err_and c.from_residual.result c.from_residual.ensures.1 in
    rw (p.1, p.2) (amount_is c.args.rest.now c.cut.result.0.now c.cut.result.1.now c.cut.ensures.parts (omega (arith, ltb-true, ltb-false)) ∙ sym c.in_err-amount.ensures)

pub returns : goal.returns
returns c =
    let f = c.cut.result.0.now in
    let a = c.cut.result.1.now in (
      amount_is c.args.rest.now f a c.cut.ensures.parts (omega (arith, ltb-true, ltb-false)) ∙ sym c.in_ok-amount.ensures,
      omega (arith, ap (λ fs. length (first_field fs)) c.cut.ensures.parts),
      clauses_is c.args.rest.now f a _ c.cut.ensures.parts c.cut.ensures.left refl,
    )
