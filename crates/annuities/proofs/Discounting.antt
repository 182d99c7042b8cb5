-- Discounts start at 1 and never rise.
use Rattle.std.proofs.Common.{◌≡◌, ℕ, ◌+◌, ◌*◌, ◌/◌, refl, ap, add-one}
use Rattle.annuities.specs.Discounts.{discount}

pub discount-first : (i : ℕ) → 100000000 ≡ discount i 0
unfolding discount
discount-first i = refl

pub discount_next : (i t : ℕ) → discount i (t + 1) ≡ discount i t * 10000 / (10000 + i)
unfolding discount
discount_next i t = ap (discount i) (add-one t)
