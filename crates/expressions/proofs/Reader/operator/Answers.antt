-- The needs of `operator`.
use Rattle.std.proofs.Common.{◌≡◌, ◌∷◌, sym, ap, ◌∙◌, subst}
use Rattle.stacks.specs.Items.{rest}
use Rattle.expressions.specs.declared.Reader.{Reader}
use Rattle.expressions.specs.declared.Word.TheVariants.{Or, And, Open}
use Rattle.expressions.specs.Grammar.{Tree, term}
use Rattle.expressions.specs.Layout.{Fits, words_in, masks_in, words_of, masks_of, join_words, join_masks, is_top, top}
use Rattle.expressions.specs.Masks.{mask_of}
use Rattle.expressions.specs.Moves.{Stuck}
use Rattle.expressions.specs.Open as part
use Rattle.expressions.specs.Open.{lone, after_or, after_and}
use Rattle.expressions.specs.States.{operand, operator, joined, outer, by_and, by_or, by_close}
use Rattle.expressions.proofs.Moving.{moved, settled_by, close_stuck, open_there, joined_words, joined-masks}
use Rattle.expressions.proofs.Reader.operator.Goals as goal

-- the words and the answers once the term is joined
module _ {k : part.Open term} {a : Tree} {r : Reader} (s : Reader) (f : Fits (operator k a) r) where
  there : words_in s ≡ join_words (words_in r) → words_in s ≡ words_of (outer k)
  there w = w ∙ ap join_words f.waiting ∙ joined_words k

  known : masks_in s ≡ join_masks (words_in r) (masks_in r) → masks_in s ≡ mask_of (joined k a) ∷ masks_of (outer k)
  known m = m ∙ (λ i. join_masks (f.waiting i) (f.answering i)) ∙ joined-masks k a

pub returns-in-And-clause-took : goal.returns-in-And-clause-took
returns-in-And-clause-took c =
    let w = c.wait.ensures in
    λ k a f. moved (operator k a) (operand (after_and a k)) c.in-And.is by_and w.expect (w.words ∙ ap (λ x. And ∷ x) f.waiting) (w.masks ∙ f.answering)

pub returns-in-Or-clause-took : goal.returns-in-Or-clause-took
returns-in-Or-clause-took c =
    let j = c.join.ensures in
    let w = c.wait-in-Or.ensures in
    λ k a f. moved (operator k a) (operand (lone (after_or (joined k a) (outer k)))) c.in-Or.is by_or w.expect (w.words ∙ ap (λ x. Or ∷ x) (there c.join.new.self f j.words)) (w.masks ∙ known c.join.new.self f j.masks)

pub returns-then-not-is_top-clause-took : goal.returns-then-not-is_top-clause-took
returns-then-not-is_top-clause-took c =
    let j = c.join-in-Close.ensures in
    λ k a f. (c.wrong_at.ensures, subst (Stuck (operator k a)) (sym c.in-Close.is) (close_stuck k a (ap (is_top Open) (sym (there c.join-in-Close.new.self f j.words)) ∙ sym c.if-not-is_top.ensures)))

pub returns-else-not-is_top-clause-took : goal.returns-else-not-is_top-clause-took
returns-else-not-is_top-clause-took c =
    let j = c.join-in-Close.ensures in
    let w = c.close.ensures in
    λ k a f.
    let at = there c.join-in-Close.new.self f j.words in
    let on = known c.join-in-Close.new.self f j.masks in
    let (l, is) = open_there (outer k) (ap (is_top Open) (sym at) ∙ sym c.if-not-is_top.ensures) in
    settled_by (operator k a) l (joined k a) _ _ _ c.in-Close.is (by_close is) (ap rest (at ∙ ap words_of is)) (ap rest on ∙ ap masks_of is) (ap top on) w.expect w.words w.masks
