-- Answers packed one bit each: bounds, and the three connectives.
use Rattle.std.proofs.Common.{◌≡◌, ℕ, zero, suc, ◌+◌, ◌*◌, ◌^◌, ◌<◌, Bool, true, false, cond, not as nay, ◌&&◌, ◌||◌, sym, refl, ◌∙◌, pow-suc, arith, lit<}
use lib.Bits.{bit_and, bit_or, and_block, or_block}
use Rattle.patterns.specs.Seats.{patterns}
use Rattle.expressions.specs.Grammar.{Tree, seat, group, not, and, or}
use Rattle.expressions.specs.Meaning.{packed, holds}
use Rattle.expressions.specs.Masks.{mask_of}

abbrev pub one : Bool → ℕ
one true = 1
one false = 0

pub packed_suc : (f : ℕ → Bool) (n : ℕ) → packed f (suc n) ≡ one (f n) * 2 ^ n + packed f n
packed_suc f n = elim (f n) as (λ b. packed f n + cond b (2 ^ n) 0 ≡ one b * 2 ^ n + packed f n) [ true ↦ omega arith | false ↦ omega arith ]

pub packed_lt : (f : ℕ → Bool) (n : ℕ) → packed f n < 2 ^ n
packed_lt f zero = lit< tt
packed_lt f (suc n) =
    let below = packed_lt f n in
    let two = pow-suc 2 n in
    elim (f n) as (λ b. packed f n + cond b (2 ^ n) 0 < 2 ^ suc n) [ true ↦ omega arith | false ↦ omega arith ]

pub packed_and : (f g : ℕ → Bool) (n : ℕ) → bit_and (packed f n) (packed g n) ≡ packed (λ p. f p && g p) n
packed_and f g zero = refl
packed_and f g (suc n) =
    (λ i. bit_and (packed_suc f n i) (packed_suc g n i))
    ∙ and_block n (one (f n)) (one (g n)) (packed f n) (packed g n) (packed_lt f n) (packed_lt g n)
    ∙ (λ i. and_one (f n) (g n) i * 2 ^ n + packed_and f g n i)
    ∙ sym (packed_suc (λ p. f p && g p) n)
  where
    and_one : (a b : Bool) → bit_and (one a) (one b) ≡ one (a && b)
    and_one true true = refl
    and_one true false = refl
    and_one false true = refl
    and_one false false = refl

pub packed_or : (f g : ℕ → Bool) (n : ℕ) → bit_or (packed f n) (packed g n) ≡ packed (λ p. f p || g p) n
packed_or f g zero = refl
packed_or f g (suc n) =
    (λ i. bit_or (packed_suc f n i) (packed_suc g n i))
    ∙ or_block n (one (f n)) (one (g n)) (packed f n) (packed g n) (packed_lt f n) (packed_lt g n)
    ∙ (λ i. or_one (f n) (g n) i * 2 ^ n + packed_or f g n i)
    ∙ sym (packed_suc (λ p. f p || g p) n)
  where
    or_one : (a b : Bool) → bit_or (one a) (one b) ≡ one (a || b)
    or_one true true = refl
    or_one true false = refl
    or_one false true = refl
    or_one false false = refl

pub packed_not : (f : ℕ → Bool) (n : ℕ) → packed f n + packed (λ p. nay (f p)) n + 1 ≡ 2 ^ n
packed_not f zero = refl
packed_not f (suc n) =
    let below = packed_not f n in
    let two = pow-suc 2 n in
    elim (f n) as (λ b. packed f n + cond b (2 ^ n) 0 + (packed (λ p. nay (f p)) n + cond (nay b) (2 ^ n) 0) + 1 ≡ 2 ^ suc n) [ true ↦ omega arith | false ↦ omega arith ]

-- the reader's answers are the meaning's
pub mask_is : (t : Tree) → mask_of t ≡ packed (holds t) patterns
mask_is (seat s) = refl
mask_is (group g s) = refl
mask_is (not a) = omega (arith, mask_is a, packed_not (holds a) patterns)
mask_is (and a b) = (λ i. bit_and (mask_is a i) (mask_is b i)) ∙ packed_and (holds a) (holds b) patterns
mask_is (or a b) = (λ i. bit_or (mask_is a i) (mask_is b i)) ∙ packed_or (holds a) (holds b) patterns
