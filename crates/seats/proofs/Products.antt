-- Products over the seats.
use Rattle.std.proofs.Common.{◌≡◌, ℕ, zero, suc, ◌+◌, ◌*◌, ◌<◌, ◌≤◌, List, [], ◌∷◌, length, drop, set, sym, ap, ◌∙◌, le_of_suc-le-suc, not-suc-le-zero, mul-le-mul_right, mul_assoc, mul-le-mul, mul-le-mul_left, one-mul, mul-one, mul_left_comm, arith}
use Rattle.std.proofs.lemmas.List.{drop_more}
use Rattle.seats.specs.declared.seat.Seat.{Seat}
use Rattle.seats.specs.Seats.{seat_at, product}

module _ (f : Seat → ℕ) where
  pub product_pos : (xs : List Seat) → ((i : ℕ) → 1 ≤ f (seat_at xs i)) → 1 ≤ product f xs
  product_pos [] all = omega arith
  product_pos (x ∷ xs) all = mul-le-mul {n₁ = 1} {m₁ = 1} (all 0) (product_pos xs (λ i. all (suc i)))

  pub product_set_le : (xs : List Seat) (i : ℕ) (y : Seat) → f y ≤ f (seat_at xs i) → product f (set xs i y) ≤ product f xs
  product_set_le [] i y h = omega arith
  product_set_le (x ∷ xs) zero y h = mul-le-mul_right (product f xs) h
  product_set_le (x ∷ xs) (suc i) y h = mul-le-mul_left (f x) (product_set_le xs i y h)

  -- a seat that counted as 1 is filled
  pub product_fill : (xs : List Seat) (i : ℕ) (y : Seat) → i < length xs → f (seat_at xs i) ≡ 1 → product f (set xs i y) ≡ f y * product f xs
  product_fill [] i y h e = absurd (not-suc-le-zero h)
  product_fill (x ∷ xs) zero y h e = ap (λ n. f y * n) (sym (one-mul (product f xs)) ∙ ap (λ n. n * product f xs) (sym e))
  product_fill (x ∷ xs) (suc i) y h e = ap (λ n. f x * n) (product_fill xs i y (le_of_suc-le-suc h) e) ∙ mul_left_comm (f x) (f y) (product f xs)

  -- one seat more of a running product
  pub product_more : (xs : List Seat) (i p : ℕ) → i < length xs → p * product f (drop i xs) ≡ product f xs → p * f (seat_at xs i) * product f (drop (i + 1) xs) ≡ product f xs
  product_more xs i p h e =
      mul_assoc p (f (seat_at xs i)) (product f (drop (i + 1) xs)) ∙ ap (λ n. p * n) (sym (ap (product f) (drop_more xs i _ h))) ∙ e

  pub drop_pos : (xs : List Seat) (i : ℕ) → ((k : ℕ) → 1 ≤ f (seat_at xs k)) → 1 ≤ product f (drop i xs)
  drop_pos xs zero all = product_pos xs all
  drop_pos [] (suc i) all = omega arith
  drop_pos (x ∷ xs) (suc i) all = drop_pos xs i (λ k. all (suc k))

  -- so it stays within the whole
  pub product-within : (xs : List Seat) (i p : ℕ) → ((k : ℕ) → 1 ≤ f (seat_at xs k)) → p * product f (drop i xs) ≡ product f xs → p ≤ product f xs
  product-within xs i p all e = omega (arith, mul-le-mul_left p (drop_pos xs i all), mul-one p, e)

pub product_mono : (f g : Seat → ℕ) (xs : List Seat) → ((i : ℕ) → f (seat_at xs i) ≤ g (seat_at xs i)) → product f xs ≤ product g xs
product_mono f g [] all = omega arith
product_mono f g (x ∷ xs) all = mul-le-mul (all 0) (product_mono f g xs (λ i. all (suc i)))
