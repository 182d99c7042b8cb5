-- The invariant of `run_lines`.
use Rattle.std.proofs.Common.{ℕ, ◌+◌, List}
use Rattle.writing.specs.Outputs.{room, Adds}
use Rattle.sessions.specs.State.{state_of}
use Rattle.runs.proofs.Running.{Continues}
use Rattle.runs.proofs.told.run_lines.Given as goal

-- what has been printed, and that the rest goes on from it
abbrev pub invariant-loop-before : goal.invariant-loop-before
invariant-loop-before l =
    (done : List ℕ) × Adds l.initial.output l.output done
    × Continues l.file (room l.initial.output) (state_of l.session) (l.before-iterator.count + 1) (room l.output) l.before-iterator.iter.rest.now done
