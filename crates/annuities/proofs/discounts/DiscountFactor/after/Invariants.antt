-- The invariant of `after`.
use Rattle.std.proofs.Common.{◌≡◌}
use Rattle.annuities.specs.Discounts.{discount}
use Rattle.annuities.proofs.discounts.DiscountFactor.after.Given as goal

abbrev pub invariant-loop-year : goal.invariant-loop-year
invariant-loop-year l = l.discount.worth ≡ discount l.rate.hundredths l._year
