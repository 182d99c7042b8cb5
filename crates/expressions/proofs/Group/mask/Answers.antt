-- The needs of `mask`.
use Rattle.std.proofs.Common.{◌≡◌, ℕ, ◌+◌, ◌*◌, ◌^◌, ◌<◌, cond, ap, ◌∙◌, add-one, arith}
use lib.Bits.{bit_or}
use Rattle.std.proofs.lemmas.Nat.{one_shl, or_disjoint}
use Rattle.std.proofs.lemmas.Nat.Bits.{and_pow, bit_at_above}
use Rattle.expressions.specs.Meaning.{packed, group_holds}
use Rattle.expressions.proofs.Packs.{packed_lt}
use Rattle.expressions.proofs.Group.mask.Goals as goal
use Rattle.expressions.proofs.Group.mask.Goals.{then-holds, else-holds}

-- a bit above all others is added
above : (m p : ℕ) → m < 2 ^ p → bit_or m (2 ^ p) ≡ m + 2 ^ p
above m p h = or_disjoint m (2 ^ p) (omega (arith, and_pow m p, ap (λ b. b * 2 ^ p) (bit_at_above m p p h (omega arith))))

pub loop-pattern-preserved : goal.loop-pattern-preserved
loop-pattern-preserved c =
    let f = group_holds c.args.self c.args.set in
    let p = c.loop-pattern.pattern in
    let m = c.loop-pattern.mask in
    let more = ap (packed f) (add-one p) in
    let set = ap (bit_or m) (one_shl p 16 c.loop-pattern-test.true) ∙ above m p (omega (arith, packed_lt f p)) in
    elim c.if-holds.branch [
      | then-holds w ↦ omega (arith, w.mask-is, more, set, ap (λ b. cond b (2 ^ p) 0) w.if-holds.ensures)
      | else-holds w ↦ omega (arith, w.mask-is, more, ap (λ b. cond b (2 ^ p) 0) w.if-holds.ensures)
    ]
