-- Which numbers are rates.
use Rattle.std.specs.Prelude.{◌≡◌, ℕ, ◌<◌, ◌≤◌, MatchResult, Result}
use Rattle.refusals.specs.declared.Refusal.{Refusal}
use Rattle.refusals.specs.declared.Refusal.TheVariants.{Number}
use Rattle.annuities.specs.declared.rates.Rate.{Rate}

-- a number of at most 10,000 is a rate, and any other is refused
abbrev pub Limited : ℕ → Result Rate Refusal → Type 0
Limited i r = MatchResult r (λ rate. (rate.hundredths ≡ i) × (i ≤ 10000)) (λ e. (e ≡ Number) × (10000 < i))
