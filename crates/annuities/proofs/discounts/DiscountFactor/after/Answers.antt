-- The needs of `after`.
use Rattle.std.proofs.Common.{ℕ, ◌+◌, ◌*◌, ◌/◌, sym, ap, ◌∙◌}
use Rattle.annuities.proofs.Discounting.{discount-first, discount_next}
use Rattle.annuities.proofs.discounts.DiscountFactor.after.Goals as goal

pub loop-year-init : goal.loop-year-init
loop-year-init c = c.now-discount.ensures ∙ discount-first c.args.rate.hundredths

pub loop-year-preserved : goal.loop-year-preserved
loop-year-preserved c =
    c.next-discount.ensures.value ∙ ap (λ (v : ℕ). v * 10000 / (10000 + c.args.rate.hundredths)) c.loop-year.invariant ∙ sym (discount_next c.args.rate.hundredths c.loop-year._year)
