-- The loops over the patterns within the named seats, by the number alive.
use Rattle.std.proofs.lemmas.Nat.{ones-le}
use Rattle.std.proofs.Common.{◌≡◌, ℕ, zero, suc, ◌+◌, ◌^◌, ◌<◌, Bool, true, false, cond, ◌&&◌, eqb, ◌≢◌, List, length, get_or, set, replicate, sym, refl, ap, ◌∙◌, subst, ap₂, add-one, arith, length-set, get_or-set_other, get_or-set_same, eq-eqb, ne_eqb}
use native.Mathlib.Decide.{ℕ_discrete}
use lib.Bits.{bit_and}
use lib.Count.{ones}
use Rattle.std.proofs.lemmas.List.{length-replicate}
use Rattle.patterns.specs.Patterns.{flags, size, within}
use Rattle.patterns.proofs.Masks.{within_mask, ones_size}
use Rattle.weights.specs.Numbers.{has_alive, share_below}

-- ---- the tests of the code
pub inside-yes : (n N p : ℕ) → p < 2 ^ n → bit_and p N ≡ p → within (flags n p) (flags n N) ≡ true
inside-yes n N p h e = within_mask n p N h ∙ eq-eqb (bit_and p N) p e

pub inside_no : (n N p : ℕ) → p < 2 ^ n → bit_and p N ≢ p → within (flags n p) (flags n N) ≡ false
inside_no n N p h e = within_mask n p N h ∙ ne_eqb (bit_and p N) p e

-- no more are alive than there are seats
-- ---- the share of each number alive, among the patterns below m
pub record Tabled (n : ℕ) (f : ℕ → ℕ) (N m : ℕ) (xs : List ℕ) : Type 0 where
  pub long : length xs ≡ n + 1
  pub is : (k : ℕ) → get_or xs k 0 ≡ share_below n f N m k

zeros : (n k : ℕ) → get_or {A = ℕ} (replicate n 0) k 0 ≡ 0
zeros zero k = refl
zeros (suc n) zero = refl
zeros (suc n) (suc k) = zeros n k

pub tabled_none : (n : ℕ) (f : ℕ → ℕ) (N : ℕ) → Tabled n f N 0 (replicate (n + 1) 0)
unfolding share_below
tabled_none n f N = record { long = length-replicate (n + 1) 0; is = zeros (n + 1) }

next : (n : ℕ) (f : ℕ → ℕ) (N m k : ℕ) (b : Bool) → has_alive n N k m ≡ b → share_below n f N (m + 1) k ≡ cond b (f m) (share_below n f N m k)
unfolding share_below
next n f N m k b e = ap (λ (j : ℕ). share_below n f N j k) (add-one m) ∙ ap (λ (t : Bool). cond t (f m) (share_below n f N m k)) e

and_false : (a : Bool) → a && false ≡ false
and_false true = refl
and_false false = refl

module _ {n : ℕ} {f : ℕ → ℕ} {N m : ℕ} {xs : List ℕ} (r : Tabled n f N m xs) (h : m < 2 ^ n) where
  pub tabled_in : bit_and m N ≡ m → Tabled n f N (m + 1) (set xs (ones m) (f m))
  tabled_in i = record {
    long = length-set xs (ones m) (f m) ∙ r.long;
    is = λ k. go k (ℕ_discrete k (ones m));
  }
    where
      go : (k : ℕ) → Dec (k ≡ ones m) → get_or (set xs (ones m) (f m)) k 0 ≡ share_below n f N (m + 1) k
      go k (yes e) =
          let lt : ones m < length xs = omega (arith, ones-le n m h, r.long) in
          ap (λ (j : ℕ). get_or (set xs (ones m) (f m)) j 0) e
          ∙ rw get_or-set_same (sym (next n f N m k true (ap₂ ◌&&◌ (inside-yes n N m h i) (eq-eqb (size (flags n m)) k (sym (ones_size n m h) ∙ sym e)))))
      go k (no d) =
          rw get_or-set_other (
          r.is k
          ∙ sym (next n f N m k false (ap (λ (t : Bool). within (flags n m) (flags n N) && t) (ne_eqb (size (flags n m)) k (λ e. d (sym e ∙ sym (ones_size n m h)))) ∙ and_false (within (flags n m) (flags n N))))
          )

  pub tabled_out : bit_and m N ≢ m → Tabled n f N (m + 1) xs
  tabled_out i = record { long = r.long; is = λ k. r.is k ∙ sym (next n f N m k false (ap (λ (t : Bool). t && eqb (size (flags n m)) k) (inside_no n N m h i))) }

pub tabled_all : {n : ℕ} {f : ℕ → ℕ} {N m : ℕ} {xs : List ℕ} → m ≡ 2 ^ n → Tabled n f N m xs → Tabled n f N (2 ^ n) xs
tabled_all {n} {f} {N} {m} {xs} e r = subst (λ (k : ℕ). Tabled n f N k xs) e r
