-- The invariant of the loop in `cut`.
use Rattle.std.proofs.Common.{◌≡◌, ◌-◌, length, take}
use Rattle.tokens.specs.Look.{lexed, at}
use Rattle.expressions.specs.Cuts.{cut_all, cut_from, prefixed}
use Rattle.expressions.proofs.cut.cut.Given as goal

abbrev pub invariant-loop-i : goal.invariant-loop-i
invariant-loop-i l =
    (lexed l.lexer ≡ l.text)
    × (length l.tokens ≡ 64)
    × (prefixed (take l.i l.tokens) (cut_from (64 - l.i) l.text (at l.lexer)) ≡ cut_all l.text)
