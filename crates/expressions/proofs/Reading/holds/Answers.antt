-- The needs of `holds`.
use Rattle.std.proofs.Common.{◌≡◌, ◌/◌, ◌%◌, ◌^◌, ◌<◌, ◌≤◌, eqb, sym, ap, ◌∙◌, arith, pow_mono, le-ltb}
use lib.Bits.{and_mask}
use Rattle.std.proofs.lemmas.Nat.{div_below, pow_pos}
use Rattle.patterns.specs.Seats.{patterns}
use Rattle.expressions.proofs.Reading.holds.Goals as goal

pub returns-then-pattern-lt-PATTERNS : goal.returns-then-pattern-lt-PATTERNS
returns-then-pattern-lt-PATTERNS c = ap (λ x. eqb x 1) (and_mask (c.args.self.answers / 2 ^ c.args.pattern) 1)

pub returns-else-pattern-lt-PATTERNS : goal.returns-else-pattern-lt-PATTERNS
returns-else-pattern-lt-PATTERNS c =
    let p = c.args.pattern in
    let x = c.args.self.answers in
    let wide : 2 ^ 16 ≤ 2 ^ p = pow_mono c.if-pattern-lt-PATTERNS.false in
    let small : x < 2 ^ p = omega arith in
    let none : x / 2 ^ p ≡ 0 = omega (arith, div_below x (2 ^ p) 1 (pow_pos p) (omega arith)) in
    le-ltb p patterns c.if-pattern-lt-PATTERNS.false ∙ sym (ap (λ y. eqb (y % 2) 1) none)
