-- What the loop of `read_all` keeps: the fields ahead, read after the numbers so far, give what the whole line gives.
use Rattle.std.proofs.Common.{◌≡◌, ℕ, List, [], take}
use Rattle.schemes.specs.Most.{most}
use Rattle.lines.specs.Pieces.{fields}
use Rattle.schemes.specs.Places.{ahead}
use Rattle.schemes.specs.Syntax.{reads}
use Rattle.schemes.proofs.Fielding.{reads_at}
use Rattle.schemes.proofs.reading.read_all.Given as goal

abbrev pub invariant-loop-place : goal.invariant-loop-place
invariant-loop-place l =
    (goal.iterator-loop-place).can_next l.place-iterator × (goal.iterator-loop-place).is_finite l.place-iterator
    × (sofar : List ℕ) × (l.numbers.items ≡ take most sofar) × (reads_at l.kind sofar (ahead l.place-iterator) ≡ reads l.kind [] 2 (fields l.rest))
