-- The needs of `step`.
use Rattle.std.proofs.Common.{refl, ap, ◌∙◌}
use Rattle.expressions.specs.declared.Expect.TheVariants as expect
use Rattle.expressions.specs.Grammar.{group}
use Rattle.expressions.specs.Layout.{words, masks}
use Rattle.expressions.specs.States.{digit, square, letters, closing, counted, by_digit, by_square, by_letters, by_closing}
use Rattle.expressions.proofs.Moving.{moved, settled_by, state_is, from_state, stuck_state, fits_same, digit_stuck, square_stuck, run_stuck, closing_stuck}
use Rattle.expressions.proofs.Reader.step.Goals as goal
use Rattle.expressions.proofs.Reader.step.Goals.{in_default-via-in-Digit+in_default, in_default-via-in-Square+in_default, in_default-via-in-Letters+in_default, in_default-via-in-Closing+in_default}

pub returns-in-Digit-Digit-clause-took : goal.returns-in-Digit-Digit-clause-took
returns-in-Digit-Digit-clause-took c = λ s f.
    let w = c.in-Digit-Digit in
    let g = fits_same c.name.ensures.same f in
    let (k, is) = state_is s (expect.Digit w.count) g w.is-0 in
    from_state is (moved (digit w.count k) (square (counted w.count w.n) k) w.is-1 by_digit (ap expect.Square c.group.ensures) (g.waiting ∙ ap words is) (g.answering ∙ ap masks is))

pub returns-in-Square-OpenSquare-clause-took : goal.returns-in-Square-OpenSquare-clause-took
returns-in-Square-OpenSquare-clause-took c = λ s f.
    let w = c.in-Square-OpenSquare in
    let g = fits_same c.name.ensures.same f in
    let (k, is) = state_is s (expect.Square w.group) g w.is-0 in
    from_state is (moved (square w.group k) (letters w.group k) w.is-1 by_square refl (g.waiting ∙ ap words is) (g.answering ∙ ap masks is))

pub returns-in-Letters-Letters-clause-took : goal.returns-in-Letters-Letters-clause-took
returns-in-Letters-Letters-clause-took c = λ s f.
    let w = c.in-Letters-Letters in
    let g = fits_same c.name.ensures.same f in
    let (k, is) = state_is s (expect.Letters w.group) g w.is-0 in
    from_state is (moved (letters w.group k) (closing w.group w.set k) w.is-1 by_letters refl (g.waiting ∙ ap words is) (g.answering ∙ ap masks is))

pub returns-in-Closing-CloseSquare-clause-took : goal.returns-in-Closing-CloseSquare-clause-took
returns-in-Closing-CloseSquare-clause-took c = λ s f.
    let w = c.in-Closing-CloseSquare in
    let r = c.complete.ensures in
    let g = fits_same c.name.ensures.same f in
    let (k, is) = state_is s (expect.Closing w.group w.set) g w.is-0 in
    from_state is (settled_by (closing w.group w.set k) k (group w.group w.set) _ _ _ w.is-1 by_closing (g.waiting ∙ ap words is) (g.answering ∙ ap masks is) c.mask.ensures r.expect r.words r.masks)

pub returns-in_default-clause-took : goal.returns-in_default-clause-took
returns-in_default-clause-took c = λ s f.
    let g = fits_same c.name.ensures.same f in (
      c.wrong_at.ensures,
      elim c.in_default.branch [
        | in_default-via-in-Digit+in_default w ↦ let w = w.in_default in let (k, is) = state_is s (expect.Digit w.field-0-0) g w.is-0 in stuck_state is (digit_stuck w.field-0-0 k c.args.token.code w.not-Digit-1)
        | in_default-via-in-Square+in_default w ↦ let w = w.in_default in let (k, is) = state_is s (expect.Square w.field-0-0) g w.is-0 in stuck_state is (square_stuck w.field-0-0 k c.args.token.code w.not-OpenSquare-1)
        | in_default-via-in-Letters+in_default w ↦ let w = w.in_default in let (k, is) = state_is s (expect.Letters w.field-0-0) g w.is-0 in stuck_state is (run_stuck w.field-0-0 k c.args.token.code w.not-Letters-1)
        | in_default-via-in-Closing+in_default w ↦ let w = w.in_default in let (k, is) = state_is s (expect.Closing w.field-0-0 w.field-1-0) g w.is-0 in stuck_state is (closing_stuck w.field-0-0 w.field-1-0 k c.args.token.code w.not-CloseSquare-1)
      ],
    )
