-- The bases of a life and the codes of their letters: a for a table of counts, m for a step.
use Rattle.std.specs.Prelude.{ℕ, cond, Ok, Err, Result, ◌==◌}
use Rattle.refusals.specs.declared.Refusal.{Refusal}
use Rattle.refusals.specs.declared.Refusal.TheVariants.{Number}
use Rattle.schemes.specs.declared.basis.Basis.{Basis}
use Rattle.schemes.specs.declared.basis.Basis.TheVariants.{Listed, Stepped}

-- the code of a basis's letter
abbrev pub code_of : Basis → ℕ
code_of Listed = 97
code_of Stepped = 109

-- the basis of a letter's code, if it is one's
abbrev pub basis_of : ℕ → Result Basis Refusal
basis_of c = cond (c == 97) (Ok Listed) (cond (c == 109) (Ok Stepped) (Err Number))
