-- The needs of `operand`.
use Rattle.std.proofs.Common.{◌∷◌, refl, ap, ◌∙◌}
use Rattle.expressions.specs.declared.Count.TheVariants.{Exact, Least}
use Rattle.expressions.specs.declared.Group.TheVariants as kind
use Rattle.expressions.specs.declared.Word.TheVariants.{Not, Open}
use Rattle.expressions.specs.Grammar.{seat}
use Rattle.expressions.specs.Open.{inside, first, lone, after_not}
use Rattle.expressions.specs.States.{operand, digit, square, by_not, by_open, by_letter, by_joint, by_last, by_exactly, by_atleast}
use Rattle.expressions.proofs.Moving.{moved, settled_by}
use Rattle.expressions.proofs.Reader.operand.Goals as goal

pub returns-in-Not-clause-took : goal.returns-in-Not-clause-took
returns-in-Not-clause-took c =
    let w = c.wait.ensures in
    λ k f. moved (operand k) (operand (after_not k)) c.in-Not.is by_not w.expect (w.words ∙ ap (λ x. Not ∷ x) f.waiting) (w.masks ∙ f.answering)

pub returns-in-Open-clause-took : goal.returns-in-Open-clause-took
returns-in-Open-clause-took c =
    let w = c.wait-in-Open.ensures in
    λ k f. moved (operand k) (operand (lone (first (inside k)))) c.in-Open.is by_open w.expect (w.words ∙ ap (λ x. Open ∷ x) f.waiting) (w.masks ∙ f.answering)

pub returns-in-Letters-clause-took : goal.returns-in-Letters-clause-took
returns-in-Letters-clause-took c =
    let w = c.complete.ensures in
    λ k f. settled_by (operand k) k (seat c.in-Letters.set) _ _ _ c.in-Letters.is (by_letter c.if-set-eq1.true) f.waiting f.answering c.mask.ensures w.expect w.words w.masks

pub returns-in-Joint-clause-took : goal.returns-in-Joint-clause-took
returns-in-Joint-clause-took c = λ k f. moved (operand k) (square kind.Joint k) c.in-Joint.is by_joint refl f.waiting f.answering

pub returns-in-Last-clause-took : goal.returns-in-Last-clause-took
returns-in-Last-clause-took c = λ k f. moved (operand k) (square kind.Last k) c.in-Last.is by_last refl f.waiting f.answering

pub returns-in-Exactly-clause-took : goal.returns-in-Exactly-clause-took
returns-in-Exactly-clause-took c = λ k f. moved (operand k) (digit Exact k) c.in-Exactly.is by_exactly refl f.waiting f.answering

pub returns-in-AtLeast-clause-took : goal.returns-in-AtLeast-clause-took
returns-in-AtLeast-clause-took c = λ k f. moved (operand k) (digit Least k) c.in-AtLeast.is by_atleast refl f.waiting f.answering
