-- What a file prints, and how its run ends.
use Rattle.std.specs.Prelude.{◌≡◌, ℕ, ◌+◌, ◌-◌, ◌<◌, ◌≤◌, Bool, true, false, cond, List, [], ◌∷◌, ◌++◌, length, Some, None, Ok, Err, Option, Result, nat_le, nat_lt}
use Rattle.refusals.specs.declared.Refusal.TheVariants as refusal
use Rattle.refusals.specs.Numbers.{number}
use Rattle.annuities.specs.declared.valuation.Valuation.{Valuation}
use Rattle.writing.specs.Printed.{printed}
use Rattle.lines.specs.Pieces.{pieces}
use Rattle.schemes.specs.declared.fault.Fault.{Fault}
use Rattle.schemes.specs.declared.fault.Fault.TheVariants.{At}
use Rattle.schemes.specs.declared.fault.LineFault.{LineFault}
use Rattle.schemes.specs.Faults as faults
use Rattle.schemes.specs.Faults.{in_line}
use Rattle.sessions.specs.State.{State, beginning}
use Rattle.sessions.specs.Machine.{Done, Lined}
use Rattle.runs.specs.declared.outcome.Stop.{Stop}
use Rattle.runs.specs.declared.outcome.Stop.TheVariants.{Refused, Full}

-- how many bytes a file may have
abbrev pub longest : ℕ
longest = 32256

-- a run's end: after its last line, or where it stops
abbrev pub Ending : Type 0
Ending = Result (Unit {0}) Stop

-- the code of a run's end: that of its refusal, or 0
abbrev pub code : Ending → ℕ
code (Ok _) = 0
code (Err (Refused f)) = number (faults.refusal f.fault)
code (Err Full) = number refusal.Memory

-- what a run writes, and how it ends
pub record Ran : Type 0 where
  pub bytes : List ℕ
  pub ending : Ending

-- a run by what it writes and how it ends
abbrev pub ran : List ℕ → Ending → Ran
ran bytes ending = record { bytes = bytes; ending = ending }

-- a run that goes on after some bytes
abbrev pub after : List ℕ → Ran → Ran
after bytes r = ran (bytes ++ r.bytes) r.ending

-- V line factor value: what an accepted line prints, which is nothing where it says nothing
abbrev pub spoken : Option Valuation → ℕ → List ℕ
spoken None k = []
spoken (Some v) k = printed 86 k v.factor v.value

-- ! line place code: what a refusal prints
abbrev pub blamed : LineFault → List ℕ
blamed f = printed 33 f.line (faults.place f.fault) (number (faults.refusal f.fault))

-- a run that ends at a refusal, which is printed if it fits
abbrev pub refused : ℕ → LineFault → Ran
refused room f = cond (nat_le (length (blamed f)) room) (ran (blamed f) (Err (Refused f))) (ran [] (Err Full))

-- the run of the lines from the k-th on, in a state and over so much room
pub data Runs : State → ℕ → ℕ → List (List ℕ) → Ran → Type 0 where
  -- nothing follows the last line's end
  whole : (s : State) (k room : ℕ) → Runs s k room ([] ∷ []) (ran [] (Ok tt))
  -- what follows it is a line without end
  endless : (s : State) (k room c : ℕ) (cs : List ℕ) → Runs s k room ((c ∷ cs) ∷ []) (refused room (in_line k (At 0 refusal.Line)))
  -- a line is refused
  stops : (s : State) (k room : ℕ) (line next : List ℕ) (more : List (List ℕ)) (f : Fault) → Lined line s (Err f) → Runs s k room (line ∷ next ∷ more) (refused room (in_line k f))
  -- what a line prints does not fit
  full : (s : State) (k room : ℕ) (line next : List ℕ) (more : List (List ℕ)) (d : Done) → Lined line s (Ok d) → room < length (spoken d.said k) → Runs s k room (line ∷ next ∷ more) (ran [] (Err Full))
  -- a line is accepted, prints what it says, and the next goes on in its state
  goes_on : (s : State) (k room : ℕ) (line next : List ℕ) (more : List (List ℕ)) (d : Done) (r : Ran) → Lined line s (Ok d) → length (spoken d.said k) ≤ room
      → Runs d.state (k + 1) (room - length (spoken d.said k)) (next ∷ more) r → Runs s k room (line ∷ next ∷ more) (after (spoken d.said k) r)

-- the run of a file, by whether it is too long
abbrev pub ByLength : Bool → List ℕ → ℕ → Ran → Type 0
ByLength true file room r = r ≡ refused room (in_line 0 (At 0 refusal.FileTooLong))
ByLength false file room r = Runs beginning 1 room (pieces 10 file) r

-- the run of a file over so much room
abbrev pub FileRuns : List ℕ → ℕ → Ran → Type 0
FileRuns file room r = ByLength (nat_lt longest (length file)) file room r

-- a run that has written bytes, and ends or is about to print a refusal in the room that is left
abbrev pub so_far : List ℕ → ℕ → Ending → Ran
so_far w room (Ok _) = ran w (Ok tt)
so_far w room (Err (Refused f)) = after w (refused room f)
so_far w room (Err Full) = ran w (Err Full)
