-- The needs of `is_member`.
use Rattle.std.proofs.Common.{◌≡◌, ℕ, ◌%◌, ◌^◌, ◌<◌, ◌≤◌, eqb, sym, ap, ◌∙◌, arith}
use Rattle.std.proofs.lemmas.Bool.{le-ltb}
use native.Mathlib.Nat as NatL
use Rattle.patterns.proofs.sets.is_member.Goals as goal

two_to : {i j : ℕ} → i ≤ j → 2 ^ i ≤ 2 ^ j
two_to h = NatL.pow-le-pow_right (NatL.zero-lt-suc 1) h

-- no number that fits reaches so far
pub returns-else-seat-lt64 : goal.returns-else-seat-lt64
returns-else-seat-lt64 c =
    let past : 64 ≤ c.args.seat = omega arith in
    let none : c.args.set < 2 ^ c.args.seat = omega (arith, two_to past) in
    le-ltb c.args.seat 64 past ∙ sym (ap (λ (n : ℕ). eqb (n % 2) 1) (NatL.div-eq_of_lt none))
