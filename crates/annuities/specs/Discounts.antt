-- What 1 due in a year from now is worth, in hundred-millionths, at a flat rate in hundredths of a percent.
use Rattle.std.specs.Prelude.{ℕ, zero, suc, ◌+◌, ◌*◌, ◌/◌, ◌^◌, cond, Ok, Err, Result, nat_lt}
use Rattle.refusals.specs.declared.Refusal.{Refusal}
use Rattle.refusals.specs.declared.Refusal.TheVariants.{Number, Year}

-- each year is cut
unfoldable pub discount : ℕ → ℕ → ℕ
discount i zero = 10 ^ 8
discount i (suc t) = discount i t * 10000 / (10000 + i)

-- what a call answers that needs a rate: refused where it is above 10,000
abbrev pub rated : {X : Type 0} → ℕ → Result X Refusal → Result X Refusal
rated i r = cond (nat_lt 10000 i) (Err Number) r

-- the discount of a year, or why there is none
abbrev pub discounted : ℕ → ℕ → Result ℕ Refusal
discounted i t = rated i (cond (nat_lt 120 t) (Err Year) (Ok (discount i t)))
