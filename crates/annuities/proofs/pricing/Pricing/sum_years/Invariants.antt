-- The invariant of `sum_years`.
use Rattle.std.proofs.Common.{◌≡◌, ◌+◌, ◌*◌, ◌≤◌}
use Rattle.patterns.specs.Patterns.{below}
use Rattle.cases.specs.Views.{book_of}
use Rattle.annuities.specs.Discounts.{discount}
use Rattle.annuities.specs.Values.{yearly_of}
use Rattle.annuities.proofs.pricing.Pricing.sum_years.Given as goal

abbrev pub invariant-loop-year : goal.invariant-loop-year
invariant-loop-year l = record {
  summed : l.factor ≡ below ◌+◌ 0 l.year (yearly_of (book_of l.self.view) l.self.benefit.now l.rate.hundredths);
  bound : l.factor ≤ l.year * 100000000;
  worth : l.discount.worth ≡ discount l.rate.hundredths l.year;
}
