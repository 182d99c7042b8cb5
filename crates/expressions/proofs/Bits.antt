-- One bit of packed answers.
use Rattle.std.proofs.Common.{◌≡◌, ℕ, zero, suc, ◌+◌, ◌-◌, ◌*◌, ◌/◌, ◌%◌, ◌^◌, ◌<◌, ◌≤◌, Bool, true, false, eqb, refl, ap, ◌∙◌, ⊎_elim, pow-suc, arith}
use Rattle.std.proofs.lemmas.Nat.{pow-add, pow_pos, shr_high, shr_split, mod_below}
use Rattle.std.proofs.lemmas.Bool.{cases_lt}
use Rattle.expressions.specs.Meaning.{packed}
use Rattle.expressions.proofs.Packs.{one, packed_suc, packed_lt}

-- a higher bit leaves the lower ones
low_bit : (b : Bool) (d p r : ℕ) → (one b * 2 ^ (suc d + p) + r) / 2 ^ p % 2 ≡ r / 2 ^ p % 2
low_bit b d p r =
    let parts : one b * 2 ^ (suc d + p) + r ≡ (one b * 2 ^ suc d + r / 2 ^ p) * 2 ^ p + r % 2 ^ p = omega (arith, ap (λ x. one b * x) (pow-add 2 (suc d) p), shr_split r p) in
    let high = shr_high (one b * 2 ^ suc d + r / 2 ^ p) p (r % 2 ^ p) (mod_below r (2 ^ p) (pow_pos p)) in
    ap (λ n. n / 2 ^ p % 2) parts ∙ ap (λ n. n % 2) high ∙ even b
  where
    even : (c : Bool) → (one c * 2 ^ suc d + r / 2 ^ p) % 2 ≡ r / 2 ^ p % 2
    even true = omega (arith, pow-suc 2 d)
    even false = omega arith

one_bit : (b : Bool) → one b % 2 ≡ one b
one_bit true = refl
one_bit false = refl

packed_bit : (f : ℕ → Bool) (n p : ℕ) → p < n → packed f n / 2 ^ p % 2 ≡ one (f p)
packed_bit f zero p h = absurd (omega arith)
packed_bit f (suc n) p h =
    ⊎_elim
    (λ (lt : p < n).
    let d : n ≡ suc (n - p - 1) + p = omega arith in
    ap (λ x. x / 2 ^ p % 2) (packed_suc f n) ∙ ap (λ k. (one (f n) * 2 ^ k + packed f n) / 2 ^ p % 2) d ∙ low_bit (f n) (n - p - 1) p (packed f n) ∙ packed_bit f n p lt)
    (λ (ge : n ≤ p).
    let same : p ≡ n = omega arith in
    rw same (ap (λ x. x / 2 ^ n % 2) (packed_suc f n) ∙ ap (λ x. x % 2) (shr_high (one (f n)) n (packed f n) (packed_lt f n)) ∙ one_bit (f n)))
    (cases_lt p n)

is_one : (b : Bool) → eqb (one b) 1 ≡ b
is_one true = refl
is_one false = refl

-- the bit of a pattern says whether it is among those that answer yes
pub packed_says : (f : ℕ → Bool) (n p : ℕ) → p < n → eqb (packed f n / 2 ^ p % 2) 1 ≡ f p
packed_says f n p h = ap (λ x. eqb x 1) (packed_bit f n p h) ∙ is_one (f p)
