-- The needs of `weigh`.
use Rattle.std.proofs.Common.{◌*◌, List, get_or, sym, ap, ◌∙◌, rules}
use Rattle.weights.specs.declared.exposure.Exposure.{Exposure}
use Rattle.weights.specs.Exposures.{D}
use Rattle.routes.specs.Routes.{answer_over}
use Rattle.cases.specs.Views.{book_of}
use Rattle.cases.proofs.Supposed.{view_columns, view_within}
use Rattle.cases.proofs.Routes.{weighed, refused-uneven}
use Rattle.cases.proofs.inforce.view.View.weigh.Goals as goal

pub returns-in_err-test : goal.returns-in_err-test
returns-in_err-test c =
    let uneven = refused-uneven (book_of c.args.self.now) c.args.benefit.now c.args.year c.args.route c.in_err-test.field-0.0 in
    search rules

pub returns : goal.returns
returns c =
    let v = c.args.self.now in
    let b = book_of v in
    let x = c.args.benefit.now in
    let t = c.args.year in
    let seats = c.exposures.ensures in
    let taken = sym c.in_ok-test.ensures in (
      taken,
      weighed b (view_columns v) (view_within v) x t c.args.route c.weigh.result taken
          (c.weigh.ensures.sum ∙ (λ i. answer_over c.args.route (seats i) (c.named.ensures i) (λ p. get_or (c.shares.ensures i).twentieths p 0)))
          (c.weigh.ensures.full ∙ ap (λ (xs : List Exposure). 20 * D xs) seats),
    )
