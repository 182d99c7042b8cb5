-- The fault of a line: its place, its refusal, and how a benefit's fault goes into it.
use Rattle.std.specs.Prelude.{ℕ, ◌+◌, ◌-◌, ◌^◌, min}
use Rattle.refusals.specs.declared.Refusal.{Refusal}
use Rattle.benefits.specs.declared.faults.BenefitFault.{BenefitFault}
use Rattle.benefits.specs.declared.faults.BenefitFault.TheVariants as benefit
use Rattle.schemes.specs.declared.fault.Fault.{Fault}
use Rattle.schemes.specs.declared.fault.Fault.TheVariants.{At, Clause}
use Rattle.schemes.specs.declared.fault.LineFault.{LineFault}

-- a sum of places, as far as a word of 64 bits counts
abbrev pub on : ℕ → ℕ → ℕ
on a b = min (a + b) (2 ^ 64 - 1)

-- the place of the line that is to blame
abbrev pub place : Fault → ℕ
place (At p e) = p
place (Clause p f) = on (on p f.start) f.fault.place

-- why the line is refused
abbrev pub refusal : Fault → Refusal
refusal (At p e) = e
refusal (Clause p f) = f.fault.refusal

-- the fault of a line whose call is refused, at the line's begin
abbrev pub of_refusal : Refusal → Fault
of_refusal e = At 0 e

-- the fault of a line whose benefit is refused, the clauses beginning at a place
abbrev pub of_benefit : ℕ → BenefitFault → Fault
of_benefit p (benefit.Refused e) = At 0 e
of_benefit p (benefit.Clause f) = Clause p f

-- the fault with the number of its line
abbrev pub in_line : ℕ → Fault → LineFault
in_line k f = record { line = k; fault = f }
