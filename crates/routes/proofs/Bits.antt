-- Signed values that went to their bits and back, within what the products of a route can reach.
use Rattle.std.proofs.Common.{◌≡◌, ◌*◌, ◌^◌, ◌≤◌, ℤ, nat_abs, sym, ap, ◌∙◌, subst, ap₂, arith, w64, SFits, to_z, of_z}
use borrow.Author.Differences.{ints}
use Rattle.std.proofs.lemmas.Int.{to_z-of_z}

pub fits_abs : (z : ℤ) → nat_abs z ≤ 9 * 10 ^ 18 → SFits w64 z
fits_abs z h = omega (arith, ints)

pub read : (z : ℤ) → nat_abs z ≤ 9 * 10 ^ 18 → to_z w64 (of_z w64 z) ≡ z
read z h = to_z-of_z w64 z (fits_abs z h)

-- a sum or a product of two values that are known
module _ (op : ℤ → ℤ → ℤ) {x y a b : ℤ} (e : x ≡ a) (d : y ≡ b) (h : nat_abs (op a b) ≤ 9 * 10 ^ 18) where
  pub fits_known : SFits w64 (op x y)
  fits_known = subst (SFits w64) (sym (ap₂ op e d)) (fits_abs (op a b) h)

  pub read_known : to_z w64 (of_z w64 (op x y)) ≡ op a b
  read_known = ap (λ (z : ℤ). to_z w64 (of_z w64 z)) (ap₂ op e d) ∙ read (op a b) h
