-- The needs of `sum_years`.
use Rattle.std.proofs.Common.{◌≡◌, ℕ, ◌+◌, ◌-◌, ◌*◌, ◌/◌, ◌≤◌, List, get_or, sym, ap, ◌∙◌, ap₂, arith}
use Rattle.patterns.specs.Patterns.{below}
use Rattle.patterns.proofs.Loops.{below_none, below_next}
use Rattle.cases.specs.Views.{book_of}
use Rattle.weights.specs.declared.exposure.Exposure.{Exposure}
use Rattle.weights.specs.Exposures.{D, none_counted}
use Rattle.routes.specs.Routes.{answer_over}
use Rattle.cases.proofs.Weighings.{settled, full_is}
use Rattle.cases.proofs.Supposed.{view_columns, view_within}
use Rattle.cases.proofs.Routes.{answers}
use Rattle.annuities.specs.Values.{yearly, yearly_of, factor_of}
use Rattle.annuities.proofs.Discounting.{discount-first, discount_next}
use Rattle.annuities.proofs.Summing.{nothing_more}
use Rattle.annuities.proofs.pricing.Pricing.sum_years.Goals as goal

pub loop-year-init : goal.loop-year-init
loop-year-init c = record {
  summed = sym (below_none ◌+◌ 0 (yearly_of (book_of c.args.self.now.view) c.args.self.now.benefit.now c.args.rate.hundredths));
  bound = omega arith;
  worth = c.now-discount.ensures ∙ discount-first c.args.rate.hundredths;
}

pub returns : goal.returns
unfolding factor_of
returns c =
    let b = book_of c.args.self.now.view in
    let F = yearly_of b c.args.self.now.benefit.now c.args.rate.hundredths in
    let e : c.loop-year.year ≡ 121 = omega arith in
    record {
      value = c.loop-year.invariant.summed ∙ ap (λ (n : ℕ). below ◌+◌ 0 n F) e;
      bound = omega (arith, c.loop-year.invariant.bound, e);
    }

pub returns-then-is_over : goal.returns-then-is_over
unfolding factor_of
returns-then-is_over c =
    let v = c.args.self.now.view in
    let b = book_of v in
    let x = c.args.self.now.benefit.now in
    let t = c.loop-year.year in
    let over = ap none_counted (sym c.exposures-exposures.ensures) ∙ sym c.is_over.ensures ∙ c.if-is_over.true in
    let weighs = c.weigh-weight.ensures.sum ∙ (λ j. answer_over c.args.self.now.route (c.exposures-exposures.ensures j) (c.named.ensures j) (λ p. get_or (c.shares.ensures j).twentieths p 0)) ∙ answers b (view_columns v) (view_within v) x t c.args.self.now.route c.requires in
    let none = λ (u : ℕ) (h : t ≤ u). settled b (view_columns v) (view_within v) x t u h over ∙ sym weighs ∙ c.if-weight-eq0.true in
    let all : t + (121 - t) ≡ 121 = omega arith in
    record {
      value = c.loop-year.invariant.summed ∙ sym (nothing_more b x c.args.rate.hundredths t (121 - t) none) ∙ ap (λ (n : ℕ). below ◌+◌ 0 n (yearly_of b x c.args.rate.hundredths)) all;
      bound = omega (arith, c.loop-year.invariant.bound);
    }

pub loop-year-preserved : goal.loop-year-preserved
loop-year-preserved c =
    let v = c.args.self.now.view in
    let b = book_of v in
    let x = c.args.self.now.benefit.now in
    let i = c.args.rate.hundredths in
    let t = c.loop-year.year in
    let weighs = c.weigh-weight.ensures.sum ∙ (λ j. answer_over c.args.self.now.route (c.exposures-exposures.ensures j) (c.named.ensures j) (λ p. get_or (c.shares.ensures j).twentieths p 0)) ∙ answers b (view_columns v) (view_within v) x t c.args.self.now.route c.requires in
    let fulls = c.weigh-weight.ensures.full ∙ ap (λ (xs : List Exposure). 20 * D xs) c.exposures-exposures.ensures ∙ full_is b (view_columns v) x t in
    let y = c.yearly-factor.ensures.value ∙ (λ j. yearly (weighs j) (fulls j) (c.loop-year.invariant.worth j)) in
    record {
      summed = ap₂ ◌+◌ c.loop-year.invariant.summed y ∙ sym (below_next ◌+◌ 0 (yearly_of b x i) t);
      bound = omega (arith, c.loop-year.invariant.bound, c.yearly-factor.ensures.bound);
      worth = c.next-discount.ensures.value ∙ ap (λ (v : ℕ). v * 10000 / (10000 + i)) c.loop-year.invariant.worth ∙ sym (discount_next i t);
    }
