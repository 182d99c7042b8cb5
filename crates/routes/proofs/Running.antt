-- A product over the seats, one seat after another: what is left of the set is its number halved for each.
use Rattle.std.proofs.Common.{◌≡◌, ℕ, zero, suc, ◌+◌, ◌*◌, ◌/◌, ◌%◌, ◌^◌, ◌<◌, ◌≤◌, eqb, List, [], ◌∷◌, length, drop, sym, refl, ap, ◌∙◌, subst, add-one, arith, drop-cons}
use Rattle.std.proofs.lemmas.List.{drop_all}
use native.Mathlib.Nat as NatL
use Rattle.patterns.specs.Patterns.{flags}
use Rattle.weights.specs.declared.exposure.Exposure.{Exposure}
use Rattle.weights.specs.Exposures.{counted, standing, seat_at, Present, D}
use Rattle.weights.specs.Patterns.{times}

-- after i seats, product is theirs, and rest has the flags of the others
pub record Running (x y : Exposure → ℕ) (ls : List Exposure) (p i product rest : ℕ) : Type 0 where
  pub value : product * times x y (drop i ls) (flags (length (drop i ls)) rest) ≡ times x y ls (flags (length ls) p)
  pub bound : product * D (drop i ls) ≤ D ls

-- halved once more
pub half_of : (p i : ℕ) → p / 2 ^ i / 2 ≡ p / 2 ^ (i + 1)
half_of p i = NatL.div-div-eq-div-mul p (2 ^ i) 2 ∙ ap (λ (n : ℕ). p / n) (sym (NatL.pow-suc 2 i) ∙ ap (λ (k : ℕ). 2 ^ k) (sym (add-one i)))

pub start : (x y : Exposure → ℕ) (ls : List Exposure) (p : ℕ) → Running x y ls p 0 1 p
start x y ls p = record { value = NatL.one-mul (times x y ls (flags (length ls) p)); bound = NatL.le_of_eq (NatL.one-mul (D ls)) }

drop_pos : (ls : List Exposure) (i : ℕ) → Present ls → 1 ≤ D (drop i ls)
unfolding D
drop_pos [] zero h = omega arith
drop_pos [] (suc i) h = omega arith
drop_pos (l ∷ ls) zero h = NatL.one-le-mul (h 0 (omega arith)) (drop_pos ls zero (λ k q. h (suc k) (omega arith)))
drop_pos (l ∷ ls) (suc i) h = drop_pos ls i (λ k q. h (suc k) (omega arith))

-- ---- one more seat l, before the others t
module _ (x y : Exposure → ℕ) where
  value_in : (product rest V : ℕ) (l : Exposure) (t : List Exposure) → rest % 2 ≡ 1
      → product * times x y (l ∷ t) (flags (suc (length t)) rest) ≡ V → (product * x l) * times x y t (flags (length t) (rest / 2)) ≡ V
  unfolding times flags
  value_in product rest V l t e h =
      NatL.mul_assoc product (x l) (times x y t (flags (length t) (rest / 2)))
      ∙ sym (ap (λ (d : ℕ). product * times x y (l ∷ t) (eqb d 1 ∷ flags (length t) (rest / 2))) e) ∙ h

  value_out : (product rest V : ℕ) (l : Exposure) (t : List Exposure) → rest % 2 ≡ 0
      → product * times x y (l ∷ t) (flags (suc (length t)) rest) ≡ V → (product * y l) * times x y t (flags (length t) (rest / 2)) ≡ V
  unfolding times flags
  value_out product rest V l t e h =
      NatL.mul_assoc product (y l) (times x y t (flags (length t) (rest / 2)))
      ∙ sym (ap (λ (d : ℕ). product * times x y (l ∷ t) (eqb d 1 ∷ flags (length t) (rest / 2))) e) ∙ h

bound_step : (product k : ℕ) (l : Exposure) (t : List Exposure) (d : ℕ) → k ≤ l.present → product * D (l ∷ t) ≤ d → (product * k) * D t ≤ d
unfolding D
bound_step product k l t d h b = omega (arith, b, NatL.mul-le-mul_left product (NatL.mul-le-mul_right (D t) h))

bound_now : (product k : ℕ) (l : Exposure) (t : List Exposure) (d : ℕ) → k ≤ l.present → 1 ≤ D t → product * D (l ∷ t) ≤ d → product * k ≤ d
bound_now product k l t d h q b = omega (arith, bound_step product k l t d h b, NatL.mul-le-mul_left (product * k) q)

module _ {x y : Exposure → ℕ} {ls : List Exposure} {p i product rest : ℕ} (r : Running x y ls p i product rest) (h : i < length ls) where
  abbrev t : List Exposure
  t = drop (suc i) ls

  abbrev at : Exposure
  at = seat_at ls i

  split : drop i ls ≡ at ∷ t
  split = drop-cons ls i _ h

  value_here : product * times x y (at ∷ t) (flags (length (at ∷ t)) rest) ≡ times x y ls (flags (length ls) p)
  value_here = subst (λ (xs : List Exposure). product * times x y xs (flags (length xs) rest) ≡ times x y ls (flags (length ls) p)) split r.value

  bound_here : product * D (at ∷ t) ≤ D ls
  bound_here = subst (λ (xs : List Exposure). product * D xs ≤ D ls) split r.bound

  -- a factor that the present count bounds
  pub fits_here : Present ls → (k : ℕ) → k ≤ (seat_at ls i).present → product * k ≤ D ls
  fits_here ps k g = bound_now product k at t (D ls) g (drop_pos ls (suc i) ps) bound_here

  pub take_in : rest % 2 ≡ 1 → x (seat_at ls i) ≤ (seat_at ls i).present → Running x y ls p (i + 1) (product * x (seat_at ls i)) (rest / 2)
  take_in e g = rw add-one (record { value = value_in x y product rest _ at t e value_here; bound = bound_step product (x at) at t (D ls) g bound_here })

  pub leave_out : rest % 2 ≡ 0 → y (seat_at ls i) ≤ (seat_at ls i).present → Running x y ls p (i + 1) (product * y (seat_at ls i)) (rest / 2)
  leave_out e g = rw add-one (record { value = value_out x y product rest _ at t e value_here; bound = bound_step product (y at) at t (D ls) g bound_here })

pub done : (x y : Exposure → ℕ) (ls : List Exposure) (p product rest : ℕ) → Running x y ls p (length ls) product rest → (product ≡ times x y ls (flags (length ls) p)) × (product ≤ D ls)
unfolding times D
done x y ls p product rest r =
    let v : product * 1 ≡ times x y ls (flags (length ls) p) = subst (λ (xs : List Exposure). product * times x y xs (flags (length xs) rest) ≡ times x y ls (flags (length ls) p)) (drop_all (length ls) ls (omega arith)) r.value in
    let b : product * 1 ≤ D ls = subst (λ (xs : List Exposure). product * D xs ≤ D ls) (drop_all (length ls) ls (omega arith)) r.bound in
    (sym (NatL.mul-one product) ∙ v, omega arith)

-- the product of the set of no seat is that of the present counts
none_in : (ls : List Exposure) → times counted standing ls (flags (length ls) 0) ≡ D ls
unfolding times flags D
none_in [] = refl
none_in (l ∷ ls) = ap (λ (n : ℕ). l.present * n) (none_in ls)

pub product-none : (ls : List Exposure) (n : ℕ) → length ls ≡ n → times counted standing ls (flags n 0) ≡ D ls
product-none ls n e = ap (λ (m : ℕ). times counted standing ls (flags m 0)) (sym e) ∙ none_in ls
