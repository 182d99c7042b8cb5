-- The invariant of the loop in `complete`.
use Rattle.std.proofs.Common.{◌≡◌, ◌<◌, length}
use Rattle.stacks.specs.Items.{room}
use Rattle.expressions.specs.Layout.{words_in, masks_in, Kept, complete_words, complete_masks}
use Rattle.expressions.proofs.Reader.complete.Given as goal

abbrev pub invariant-loop-self : goal.invariant-loop-self
invariant-loop-self l =
    Kept l.initial.self l.self
    × (complete_words (words_in l.self) ≡ complete_words (words_in l.initial.self))
    × (complete_masks (words_in l.self) (masks_in l.self) l.m ≡ complete_masks (words_in l.initial.self) (masks_in l.initial.self) l.initial.m)
    × (length (masks_in l.self) < room l.self.answers)

abbrev pub decreases-loop-self : goal.decreases-loop-self
decreases-loop-self l = length (words_in l.self)
