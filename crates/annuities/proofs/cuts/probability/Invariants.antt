-- The invariant of `probability`.
use Rattle.std.proofs.Common.{◌≡◌, ◌*◌, ◌/◌, ◌%◌, ◌^◌}
use Rattle.annuities.proofs.cuts.probability.Given as goal

abbrev pub invariant-loop-place : goal.invariant-loop-place
invariant-loop-place l = (l.part ≡ l.weight.weight * 10 ^ l._place / l.weight.full) × (l.rest ≡ l.weight.weight * 10 ^ l._place % l.weight.full)
