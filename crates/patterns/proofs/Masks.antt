-- How code tests a set against another, `p & n == p`, and counts its members.
use mathlib.Core.Path.{◌≡◌, refl, sym, ap, ap₂, ◌∙◌}
use mathlib.Core.Bool.{true, false}
use mathlib.Core.List.{[], ◌∷◌}
use Prim.Native.Nat.{ℕ, zero, suc, ◌+◌, ◌*◌, ◌/◌, ◌%◌, ◌^◌, ◌≤◌, ◌<◌, min}
use native.Mathlib.Decide.{ℕ_discrete}
use native.Mathlib.Omega.{arith}
use native.Mathlib.Nat as NatL
use borrow.Author.Tests.{eq-eqb, ne_eqb}
use lib.Bits.{bit_and, and_step}
use lib.Count.{ones, ones_step}
use lib.Dec.{eqb}
use lib.ListN.{length}
use Rattle.patterns.specs.Patterns.{Pattern, size, within, flags}

-- two tests agree where the facts do
same_test : (a b a' b' : ℕ) → (a ≡ b → a' ≡ b') → (a' ≡ b' → a ≡ b) → eqb a b ≡ eqb a' b'
same_test a b a' b' f g = go (ℕ_discrete a b)
  where
    go : Dec (a ≡ b) → eqb a b ≡ eqb a' b'
    go (yes e) = eq-eqb a b e ∙ sym (eq-eqb a' b' (f e))
    go (no n) = ne_eqb a b n ∙ sym (ne_eqb a' b' (λ e. n (g e)))

digit_within : (d e u v : ℕ) (P Q : Pattern) → d < 2 → e < 2 → within P Q ≡ eqb u v → within (eqb d 1 ∷ P) (eqb e 1 ∷ Q) ≡ eqb (u * 2 + min d e) (v * 2 + d)
unfolding within
digit_within zero e u v P Q hd he h = go e he
  where
    go : (e : ℕ) → e < 2 → within (false ∷ P) (eqb e 1 ∷ Q) ≡ eqb (u * 2 + min 0 e) (v * 2 + 0)
    go zero k = h ∙ same_test u v (u * 2 + 0) (v * 2 + 0) (λ i. omega arith) (λ i. omega arith)
    go (suc zero) k = h ∙ same_test u v (u * 2 + 0) (v * 2 + 0) (λ i. omega arith) (λ i. omega arith)
    go (suc (suc e)) k = absurd (omega arith)
digit_within (suc zero) zero u v P Q hd he h = sym (ne_eqb (u * 2 + 0) (v * 2 + 1) (λ i. omega arith))
digit_within (suc zero) (suc zero) u v P Q hd he h = h ∙ same_test u v (u * 2 + 1) (v * 2 + 1) (λ i. omega arith) (λ i. omega arith)
digit_within (suc zero) (suc (suc e)) u v P Q hd he h = absurd (omega arith)
digit_within (suc (suc d)) e u v P Q hd he h = absurd (omega arith)

pub within_mask : (n p N : ℕ) → p < 2 ^ n → within (flags n p) (flags n N) ≡ eqb (bit_and p N) p
unfolding flags within
within_mask zero p N h = let e : p ≡ 0 = omega arith in sym (ap (λ (k : ℕ). eqb (bit_and k N) k) e)
within_mask (suc n) p N h =
    let k : p / 2 < 2 ^ n = omega (arith, NatL.pow-suc 2 n) in
    let e : p / 2 * 2 + p % 2 ≡ p = NatL.div-add-mod' p 2 in
    digit_within (p % 2) (N % 2) (bit_and (p / 2) (N / 2)) (p / 2) (flags n (p / 2)) (flags n (N / 2)) (omega arith) (omega arith) (within_mask n (p / 2) (N / 2) k)
    ∙ ap₂ eqb (sym (and_step p N)) e

-- the ones of a number are the members of its set
bit : (d : ℕ) (P : Pattern) → d < 2 → size (eqb d 1 ∷ P) ≡ d + size P
unfolding size
bit zero P h = sym (NatL.zero-add (size P))
bit (suc zero) P h = omega arith
bit (suc (suc d)) P h = absurd (omega arith)

pub ones_size : (n p : ℕ) → p < 2 ^ n → ones p ≡ size (flags n p)
unfolding flags size ones
ones_size zero p h = let e : p ≡ 0 = omega arith in ap ones e
ones_size (suc n) p h =
    let k : p / 2 < 2 ^ n = omega (arith, NatL.pow-suc 2 n) in
    ones_step p ∙ ap (λ (m : ℕ). p % 2 + m) (ones_size n (p / 2) k) ∙ sym (bit (p % 2) (flags n (p / 2)) (omega arith))

-- ---- how many there are
pub length-flags : (n p : ℕ) → length (flags n p) ≡ n
unfolding flags
length-flags zero p = refl
length-flags (suc n) p = ap suc (length-flags n (p / 2))

pub size_le : (P : Pattern) → size P ≤ length P
unfolding size
size_le [] = omega arith
size_le (true ∷ P) = omega (arith, size_le P)
size_le (false ∷ P) = omega (arith, size_le P)
