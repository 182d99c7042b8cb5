-- The weight of the named seats alone is the weight of all seats with a failed seat in place of each that is not named.
use Rattle.std.proofs.Common.{◌≡◌, ℕ, zero, suc, ◌+◌, ◌*◌, ◌/◌, ◌%◌, ◌^◌, ◌<◌, Bool, true, false, cond, eqb, List, [], ◌∷◌, length, get_or, sym, refl, ap, ◌∙◌, one-mul, mul-zero, zero-mul, arith}
use native.Mathlib.Nat as NatL
use Rattle.patterns.specs.Anys.{is_member}
use Rattle.patterns.specs.Patterns.{Pattern, within, number, flags, all}
use Rattle.patterns.proofs.Loops.{below-same}
use Rattle.patterns.proofs.Bridge.{bridgeℕ}
use Rattle.weights.specs.declared.exposure.Exposure.{Exposure}
use Rattle.weights.specs.Exposures.{counted, standing, gone, lost, seat_at, D}
use Rattle.weights.specs.Patterns.{times, by_patterns, kept}
use Rattle.weights.specs.Weights.{times_of, inside, weight, product_named}

-- ---- what is kept of the seats
pub length-kept : (N : Pattern) (ls : List Exposure) → length (kept N ls) ≡ length ls
unfolding kept
length-kept [] [] = refl
length-kept (b ∷ N) [] = refl
length-kept [] (l ∷ ls) = ap suc (length-kept [] ls)
length-kept (true ∷ N) (l ∷ ls) = ap suc (length-kept N ls)
length-kept (false ∷ N) (l ∷ ls) = ap suc (length-kept N ls)

-- what holds of each seat, and of a failed one, holds of each that is kept
pub kept-all : (Q : Exposure → Type 0) → Q lost → (N : Pattern) (ls : List Exposure) → ((i : ℕ) → i < length ls → Q (seat_at ls i)) → (i : ℕ) → i < length ls → Q (seat_at (kept N ls) i)
unfolding kept
kept-all Q q N [] h i k = absurd (omega arith)
kept-all Q q [] (l ∷ ls) h zero k = q
kept-all Q q [] (l ∷ ls) h (suc i) k = kept-all Q q [] ls (λ j m. h (suc j) (omega arith)) i (omega arith)
kept-all Q q (true ∷ N) (l ∷ ls) h zero k = h 0 (omega arith)
kept-all Q q (true ∷ N) (l ∷ ls) h (suc i) k = kept-all Q q N ls (λ j m. h (suc j) (omega arith)) i (omega arith)
kept-all Q q (false ∷ N) (l ∷ ls) h zero k = q
kept-all Q q (false ∷ N) (l ∷ ls) h (suc i) k = kept-all Q q N ls (λ j m. h (suc j) (omega arith)) i (omega arith)

-- the product over what is kept is that of the named
none_kept : (ls : List Exposure) → D (kept [] ls) ≡ 1
unfolding D kept
none_kept [] = refl
none_kept (l ∷ ls) = one-mul (D (kept [] ls)) ∙ none_kept ls

pub D-kept : (N : Pattern) (ls : List Exposure) → D (kept N ls) ≡ product_named N standing ls
unfolding D kept
D-kept N [] = refl
D-kept [] (l ∷ ls) = one-mul (D (kept [] ls)) ∙ none_kept ls
D-kept (true ∷ N) (l ∷ ls) = ap (λ (d : ℕ). l.present * d) (D-kept N ls)
D-kept (false ∷ N) (l ∷ ls) = one-mul (D (kept N ls)) ∙ D-kept N ls

-- ---- the products of a pattern
pub chosen : (b : Bool) (n m : ℕ) → cond b (n * m) 0 ≡ n * cond b m 0
chosen true n m = refl
chosen false n m = sym (mul-zero n)

module _ (x y : Exposure → ℕ) (x₀ : x lost ≡ 0) (y₁ : y lost ≡ 1) where
  product-step : (k p : Bool) (N P : Pattern) (l : Exposure) (ls : List Exposure) → cond (within P N) (times_of N x y ls P) 0 ≡ times x y (kept N ls) P
      → cond (within (p ∷ P) (k ∷ N)) (times_of (k ∷ N) x y (l ∷ ls) (p ∷ P)) 0 ≡ times x y (kept (k ∷ N) (l ∷ ls)) (p ∷ P)
  unfolding within times_of times kept
  product-step true true N P l ls e = chosen (within P N) (x l) (times_of N x y ls P) ∙ ap (λ (n : ℕ). x l * n) e
  product-step true false N P l ls e = chosen (within P N) (y l) (times_of N x y ls P) ∙ ap (λ (n : ℕ). y l * n) e
  product-step false true N P l ls e = sym (ap (λ (n : ℕ). n * times x y (kept N ls) P) x₀ ∙ zero-mul (times x y (kept N ls) P))
  product-step false false N P l ls e = e ∙ sym (ap (λ (n : ℕ). n * times x y (kept N ls) P) y₁ ∙ one-mul (times x y (kept N ls) P))

  pub product-kept : (ls : List Exposure) (N p : ℕ)
      → cond (within (flags (length ls) p) (flags (length ls) N)) (times_of (flags (length ls) N) x y ls (flags (length ls) p)) 0
      ≡ times x y (kept (flags (length ls) N) ls) (flags (length ls) p)
  unfolding flags within times_of times kept
  product-kept [] N p = refl
  product-kept (l ∷ ls) N p = product-step (eqb (N % 2) 1) (eqb (p % 2) 1) (flags (length ls) (N / 2)) (flags (length ls) (p / 2)) l ls (product-kept ls (N / 2) (p / 2))

-- ---- the weight
pub weight-kept : (ls : List Exposure) (N : ℕ) (f : ℕ → ℕ) → by_patterns (kept (flags (length ls) N) ls) (λ P. f (number P)) ≡ weight ls N f
unfolding by_patterns
weight-kept ls N f =
    let held = kept (flags (length ls) N) ls in
    sym (
    below-same ◌+◌ 0 (2 ^ length ls) _ (λ p. f p * times counted gone held (flags (length ls) p))
    (λ p. chosen (inside ls N p) (f p) (times_of (flags (length ls) N) counted gone ls (flags (length ls) p)) ∙ ap (λ (n : ℕ). f p * n) (product-kept counted gone refl refl ls N p))
    ∙ bridgeℕ (length ls) (λ p P. f p * times counted gone held P)
    ∙ ap (λ (k : ℕ). all ◌+◌ k (λ P. f (number P) * times counted gone held P)) (sym (length-kept (flags (length ls) N) ls))
    )

-- ---- the seat i of what is kept
first_seat : (b : Bool) (M : Pattern) (l : Exposure) (ls : List Exposure) (d : Exposure) → get_or (kept (b ∷ M) (l ∷ ls)) 0 d ≡ cond b l lost
unfolding kept
first_seat true M l ls d = refl
first_seat false M l ls d = refl

next_seat : (b : Bool) (M : Pattern) (l : Exposure) (ls : List Exposure) (i : ℕ) (d : Exposure) → get_or (kept (b ∷ M) (l ∷ ls)) (suc i) d ≡ get_or (kept M ls) i d
unfolding kept
next_seat true M l ls i d = refl
next_seat false M l ls i d = refl

pub halved : (N i : ℕ) → N / 2 / 2 ^ i ≡ N / 2 ^ suc i
halved N i = NatL.div-div-eq-div-mul N 2 (2 ^ i) ∙ ap (λ (k : ℕ). N / k) (NatL.mul_comm 2 (2 ^ i) ∙ sym (NatL.pow-suc 2 i))

pub kept_at : (ls : List Exposure) (N i : ℕ) (d : Exposure) → i < length ls → get_or (kept (flags (length ls) N) ls) i d ≡ cond (is_member N i) (get_or ls i d) lost
unfolding flags
kept_at [] N i d h = absurd (omega arith)
kept_at (l ∷ ls) N zero d h = first_seat (eqb (N % 2) 1) (flags (length ls) (N / 2)) l ls d ∙ ap (λ (k : ℕ). cond (eqb (k % 2) 1) l lost) (sym (NatL.div-one N))
kept_at (l ∷ ls) N (suc i) d h =
    let k : i < length ls = omega arith in
    next_seat (eqb (N % 2) 1) (flags (length ls) (N / 2)) l ls i d
    ∙ kept_at ls (N / 2) i d k
    ∙ ap (λ (m : ℕ). cond (eqb (m % 2) 1) (get_or ls i d) lost) (halved N i)
