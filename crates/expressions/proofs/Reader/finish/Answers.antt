-- The needs of `finish`.
use Rattle.std.proofs.Common.{◌≡◌, ◌∷◌, unwrap_or, sym, ap, ◌∙◌, subst}
use Rattle.expressions.specs.declared.Expect.TheVariants as expect
use Rattle.expressions.specs.Layout.{words_in, masks_in, words_of, masks_of, words, masks, join_words, join_masks, is_nil, top}
use Rattle.expressions.specs.Masks.{mask_of}
use Rattle.expressions.specs.States.{joined, outer, Ends, ends}
use Rattle.expressions.proofs.Moving.{joined_words, joined-masks, nothing_open, still_open, not_ended, state_is}
use Rattle.expressions.proofs.Reader.finish.Goals as goal

pub returns-then-is_spent : goal.returns-then-is_spent
returns-then-is_spent c = λ s f.
    let (k, a, is) = state_is s expect.Operator f c.in-Operator.is in
    let j = c.join.ensures in
    let there : words_in c.join.new.self ≡ words_of (outer k) = j.words ∙ ap join_words (f.waiting ∙ ap words is) ∙ joined_words k in
    let known : masks_in c.join.new.self ≡ mask_of (joined k a) ∷ masks_of (outer k) = j.masks ∙ (λ i. join_masks ((f.waiting ∙ ap words is) i) ((f.answering ∙ ap masks is) i)) ∙ joined-masks k a in
    (joined k a, subst (λ x. Ends x (joined k a)) (sym is) (ends (nothing_open (outer k) (ap is_nil (sym there) ∙ sym c.if-is_spent.ensures))), c.unwrap_or-answers.ensures ∙ ap (λ o. unwrap_or o 0) c.top.ensures ∙ ap top known, j.kept.same_named)

pub returns-else-is_spent : goal.returns-else-is_spent
returns-else-is_spent c = λ s f.
    let (k, a, is) = state_is s expect.Operator f c.in-Operator.is in
    let j = c.join.ensures in
    let there : words_in c.join.new.self ≡ words_of (outer k) = j.words ∙ ap join_words (f.waiting ∙ ap words is) ∙ joined_words k in
    (c.wrong_at-else-is_spent.ensures, λ t e. still_open k a t (ap is_nil (sym there) ∙ sym c.if-is_spent.ensures) (subst (λ x. Ends x t) is e))

pub returns-in_default : goal.returns-in_default
returns-in_default c = λ s f. (c.wrong_at.ensures, not_ended s (λ e. c.in_default.not-Operator (f.expecting ∙ e)))
