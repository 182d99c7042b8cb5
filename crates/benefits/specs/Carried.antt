-- How a fault is carried outward.
use Rattle.std.specs.Prelude.{ℕ}
use Rattle.refusals.specs.declared.Refusal.{Refusal}
use Rattle.refusals.specs.declared.Refusal.TheVariants.{Memory}
use Rattle.tokens.specs.declared.faults.TokenFault.{TokenFault}
use Rattle.expressions.specs.declared.reads.ReadFault.{ReadFault}
use Rattle.expressions.specs.declared.reads.ReadFault.TheVariants.{Short, Token}
use Rattle.benefits.specs.declared.faults.PartFault.{PartFault}
use Rattle.benefits.specs.declared.faults.ClauseFault.{ClauseFault}
use Rattle.benefits.specs.declared.faults.BenefitFault.{BenefitFault}
use Rattle.benefits.specs.declared.faults.BenefitFault.TheVariants.{Refused, Clause}

-- the token's fault in a reader's fault
abbrev pub carried : ReadFault → TokenFault
carried (Token e) = e
carried Short = record { refusal = Memory; place = 0 }

-- a token's fault in the part of the text that begins at the place n
abbrev pub in_part : ℕ → TokenFault → PartFault
in_part n e = record { start = n; fault = e }

-- a part's fault in the clause of number n
abbrev pub in_clause : ℕ → PartFault → ClauseFault
in_clause n e = record { clause = n; start = e.start; fault = e.fault }

-- a refusal of the whole benefit
abbrev pub in_whole : Refusal → BenefitFault
in_whole e = Refused e

-- a clause's fault as the benefit's
abbrev pub in_benefit : ClauseFault → BenefitFault
in_benefit e = Clause e
