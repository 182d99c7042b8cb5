-- The needs of `symmetric_sum`.
use Rattle.std.proofs.Common.{List, ap, ◌∙◌, rules}
use Rattle.weights.specs.declared.exposure.Exposure.{Exposure}
use Rattle.weights.specs.AllSeats.{S}
use Rattle.weights.specs.Patterns.{kept}
use Rattle.patterns.specs.Seats.{seats}
use Rattle.patterns.specs.Patterns.{flags}
use Rattle.cases.specs.Book.{Book}
use Rattle.cases.specs.Weighing.{exposures_for}
use Rattle.cases.specs.Views.{shown_book}
use Rattle.cases.proofs.Supposed.{shown_columns, shown_within}
use Rattle.cases.proofs.Routes.{symmetric_is, symmetric-none}
use Rattle.cases.proofs.inforce.InForce.symmetric_sum.Goals as goal

pub returns : goal.returns
returns c =
    let me = c.args.self.now in
    let b = shown_book me in
    let x = c.args.benefit.now in
    let tested = rw c.as_supposed-view.ensures.book at c.in_ok-test.ensures in
    let e = c.symmetric_sum.ensures ∙ ap (λ (xs : List Exposure). S xs c.args.members) (c.exposures.ensures ∙ ap (λ (k : Book). kept (flags seats x.named) (exposures_for k c.args.year)) c.as_supposed-view.ensures.book) ∙ symmetric_is b (shown_columns me) (shown_within me) x c.args.year c.args.members in
    record { value = search rules; past = λ h. e ∙ symmetric-none b (shown_columns me) (shown_within me) x c.args.year c.args.members h }
