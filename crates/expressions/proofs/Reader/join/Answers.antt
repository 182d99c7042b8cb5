-- The needs of `join`.
use Rattle.std.proofs.Common.{◌≡◌, ◌<◌, length, unwrap_or, sym, ap, ◌∙◌, arith, ◌∷◌}
use lib.Bits.{bit_or}
use Rattle.stacks.specs.Items.{items, room, rest}
use Rattle.stacks.proofs.Piles.{within-room}
use Rattle.expressions.specs.Layout.{words_in, masks_in, top}
use Rattle.expressions.proofs.Stacks.{pushed, length_rest_below, length_rest, join_masks_is}
use Rattle.expressions.proofs.Reader.join.Goals as goal

pub returns-then-is_top-clause-masks : goal.returns-then-is_top-clause-masks
returns-then-is_top-clause-masks c =
    let self = c.args.self.now in
    let q = c.pop-then-is_top.ensures in
    let r = c.pop-then-is_top-2.ensures in
    let left : items c.pop-then-is_top-2.new.self ≡ rest (rest (masks_in self)) = r.after ∙ ap rest q.after in
    let short : length (rest (masks_in self)) < room self.answers = length_rest_below (masks_in self) (room self.answers) (within-room self.answers) self.roomy in
    let more = pushed c.push.result _ _ c.push.ensures.cases (λ full. omega (arith, short, full.1, ap length left, length_rest (rest (masks_in self)), q.room, r.room)) in
    let b : c.unwrap_or-b.result ≡ top (masks_in self) = c.unwrap_or-b.ensures ∙ ap (λ o. unwrap_or o 0) q.value in
    let a : c.unwrap_or-a.result ≡ top (rest (masks_in self)) = c.unwrap_or-a.ensures ∙ ap (λ o. unwrap_or o 0) r.value ∙ ap top q.after in
    more ∙ (λ i. bit_or (a i) (b i) ∷ left i) ∙ sym (join_masks_is (words_in self) (masks_in self) (sym c.if-is_top.ensures))
