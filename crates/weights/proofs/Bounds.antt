-- How far a sum on the way can be from 0, for any number of seats.
use Rattle.std.proofs.Common.{◌≡◌, ℕ, zero, suc, ◌+◌, ◌*◌, ◌^◌, ◌≤◌, true, false, List, [], ◌∷◌, length, ℤ, pos, negsuc, ◌+ℤ◌, ◌-ℤ◌, ◌*ℤ◌, neg_ℤ, nat_abs, sym, refl, ap, ◌∙◌, subst, ap₂, le_trans, le_of_eq, mul-le-mul_right, mul-le-mul, mul-le-mul_left, pow-suc, add-one, arith}
use native.Mathlib.Nat as NatL
use borrow.Author.Differences.{ints}
use Rattle.patterns.specs.Patterns.{Pattern, size, within, flags, all, below}
use Rattle.patterns.proofs.Sums.{all_same, all_scale, add4}
use Rattle.patterns.proofs.Loops.{below_le, below_scale, firstℕ, below_part, below-same, below-map, below_two, abs_below}
use Rattle.patterns.proofs.Bridge.{bridgeℕ}
use Rattle.patterns.proofs.Masks.{length-flags}
use Rattle.weights.specs.declared.exposure.Exposure.{Exposure}
use Rattle.weights.specs.Exposures.{counted, standing, gone, Sound, D}
use Rattle.weights.specs.Differences.{alternating, sign, Δ}
use Rattle.weights.specs.Patterns.{kept, times, by_patterns}
use Rattle.weights.specs.AllSeats.{difference, S}
use Rattle.weights.proofs.Forms.{form_cons, patterns_cons}
use Rattle.weights.proofs.Subsets.{difference_out, difference_in}
use Rattle.weights.proofs.Counts.{S-none, S_more, S_past}

-- ---- sizes of integers
pub abs_sub : (x y : ℤ) → nat_abs (x -ℤ y) ≤ nat_abs x + nat_abs y
abs_sub x y = omega (arith, ints)

abs_near : (x y k : ℕ) → x ≤ k → y ≤ k → nat_abs (pos x -ℤ pos y) ≤ k
abs_near x y k h h' = omega (arith, ints)

abs_neg : (n : ℕ) → nat_abs (neg_ℤ (pos n)) ≡ n
abs_neg zero = refl
abs_neg (suc n) = refl

pub abs_times : (z : ℤ) (n : ℕ) → nat_abs (z *ℤ pos n) ≡ nat_abs z * n
abs_times (pos a) n = refl
abs_times (negsuc a) n = abs_neg (suc a * n)

-- ---- by patterns: at most the greatest share times D
between : (g a r k d x y : ℕ) → g + a ≡ r → x ≤ k * d → y ≤ k * d → g * x + a * y ≤ k * (r * d)
between g a r k d x y e hx hy = omega (arith, mul-le-mul_left g hx, mul-le-mul_left a hy, ap (λ (n : ℕ). n * (k * d)) e)

parts : (l : Exposure) → l.count ≤ l.present → gone l + l.count ≡ l.present
parts l h = omega arith

pub patterns_bound : (k : ℕ) (ls : List Exposure) (f : Pattern → ℕ) → Sound ls → ((P : Pattern) → f P ≤ k) → by_patterns ls f ≤ k * D ls
unfolding D by_patterns all times
patterns_bound k [] f s h = omega (arith, h [])
patterns_bound k (l ∷ ls) f s h =
    le_trans (le_of_eq (patterns_cons l ls f))
    (between (gone l) l.count l.present k (D ls) _ _ (parts l (s 0)) (patterns_bound k ls (λ P. f (false ∷ P)) (λ i. s (suc i)) (λ P. h (false ∷ P))) (patterns_bound k ls (λ P. f (true ∷ P)) (λ i. s (suc i)) (λ P. h (true ∷ P))))

-- the products of all patterns sum to D
pub patterns_whole : (ls : List Exposure) → Sound ls → by_patterns ls (λ P. 1) ≡ D ls
unfolding D by_patterns all times
patterns_whole [] s = refl
patterns_whole (l ∷ ls) s =
    patterns_cons l ls (λ P. 1) ∙ ap₂ (λ (x y : ℕ). gone l * x + l.count * y) (patterns_whole ls (λ i. s (suc i))) (patterns_whole ls (λ i. s (suc i)))
    ∙ sym (NatL.add-mul (gone l) l.count (D ls)) ∙ ap (λ (n : ℕ). n * D ls) (parts l (s 0))

-- ---- sums over all sets J with a number for each size of J
B : List Exposure → (ℕ → ℕ) → ℕ
B ls h = all ◌+◌ (length ls) (λ J. h (size J) * times counted standing ls J)

B_cons : (l : Exposure) (ls : List Exposure) (h : ℕ → ℕ) → B (l ∷ ls) h ≡ l.present * B ls h + l.count * B ls (λ j. h (suc j))
unfolding B size
B_cons l ls h = form_cons counted standing l ls (λ J. h (size J))

B_twice : (ls : List Exposure) → B ls (λ j. 2 ^ suc j) ≡ 2 * B ls (λ j. 2 ^ j)
unfolding B
B_twice ls =
    all_same ◌+◌ (length ls) _ (λ J. 2 * (2 ^ size J * times counted standing ls J)) (λ J. ap (λ (n : ℕ). n * times counted standing ls J) (pow-suc 2 (size J)) ∙ omega arith)
    ∙ all_scale (length ls) 2 (λ J. 2 ^ size J * times counted standing ls J)

-- how many lives have a count that is not 0: a failed life, or a seat that is not named, adds nothing to a reach
abbrev pub some : ℕ → ℕ
some zero = 0
some (suc n) = 1

some_le : (n : ℕ) → some n ≤ 1
some_le zero = omega arith
some_le (suc n) = omega arith

unfoldable pub busy : List Exposure → ℕ
busy [] = 0
busy (l ∷ ls) = busy ls + some l.count

pub busy_le : (ls : List Exposure) → busy ls ≤ length ls
unfolding busy
busy_le [] = omega arith
busy_le (l ∷ ls) = omega (arith, busy_le ls, some_le l.count)

pub busy-kept : (N : Pattern) (ls : List Exposure) → busy (kept N ls) ≤ size N
unfolding busy kept size
busy-kept [] [] = omega arith
busy-kept (b ∷ N) [] = omega arith
busy-kept [] (l ∷ ls) = omega (arith, busy-kept [] ls)
busy-kept (true ∷ N) (l ∷ ls) = omega (arith, busy-kept N ls, some_le l.count)
busy-kept (false ∷ N) (l ∷ ls) = omega (arith, busy-kept N ls)

step-pow : (a r b d X : ℕ) → a ≤ r → X ≤ 3 ^ b * d → r * X + a * (2 * X) ≤ 3 ^ (b + some a) * (r * d)
step-pow zero r b d X h hX = rw NatL.add-zero (omega (arith, mul-le-mul_left r hX))
step-pow (suc a) r b d X h hX = rw (add-one b, pow-suc 3 b) (omega (arith, mul-le-mul_left r hX, mul-le-mul_right X h))

B_pow : (ls : List Exposure) → Sound ls → B ls (λ j. 2 ^ j) ≤ 3 ^ busy ls * D ls
unfolding B D size all times busy
B_pow [] s = omega arith
B_pow (l ∷ ls) s =
    le_trans (le_of_eq (B_cons l ls (λ j. 2 ^ j) ∙ ap (λ (n : ℕ). l.present * B ls (λ j. 2 ^ j) + l.count * n) (B_twice ls)))
    (step-pow l.count l.present (busy ls) (D ls) _ (s 0) (B_pow ls (λ i. s (suc i))))

-- 1 for no life, and 2^(j-1) for j
unfoldable pub half : ℕ → ℕ
half zero = 1
half (suc j) = 2 ^ j

step-half : (a r b d X H : ℕ) → a ≤ r → X ≤ 3 ^ b * d → 2 * H ≤ (3 ^ b + 1) * d → 2 * (r * H + a * X) ≤ (3 ^ (b + some a) + 1) * (r * d)
step-half zero r b d X H h hX hH = rw NatL.add-zero (omega (arith, mul-le-mul_left r hH))
step-half (suc a) r b d X H h hX hH = rw (add-one b, pow-suc 3 b) (omega (arith, mul-le-mul_left r hX, mul-le-mul_right X h, mul-le-mul_left r hH))

B_half : (ls : List Exposure) → Sound ls → 2 * B ls half ≤ (3 ^ busy ls + 1) * D ls
unfolding B D size all times half busy
B_half [] s = omega arith
B_half (l ∷ ls) s =
    le_trans (le_of_eq (ap (λ (n : ℕ). 2 * n) (B_cons l ls half)))
    (step-half l.count l.present (busy ls) (D ls) _ _ (s 0) (B_pow ls (λ i. s (suc i))) (B_half ls (λ i. s (suc i))))

-- ---- the differences of a share that is at most k: at J of no life within 0 and k, else within k 2^(|J|-1) of 0
pub record Near (k s : ℕ) (z : ℤ) : Type 0 where
  pub size : nat_abs z ≤ k * half s
  pub none : s ≡ 0 → z ≡ pos (nat_abs z)

near_sub : (k s : ℕ) (x y : ℤ) → Near k s x → Near k s y → Near k (suc s) (x -ℤ y)
unfolding half
near_sub k zero x y p q = record {
  size =
      let e = p.none refl in
      let e' = q.none refl in
      let a : nat_abs x ≤ k = omega (arith, p.size) in
      let b : nat_abs y ≤ k = omega (arith, q.size) in
      le_trans (le_of_eq (ap₂ (λ u v. nat_abs (u -ℤ v)) e e')) (le_trans (abs_near (nat_abs x) (nat_abs y) k a b) (le_of_eq (sym (NatL.mul-one k))));
  none = λ h. absurd (omega arith);
}
near_sub k (suc s) x y p q = record {
  size = le_trans (abs_sub x y) (le_trans (NatL.add-le-add p.size q.size) (le_of_eq (doubled k s)));
  none = λ h. absurd (omega arith);
}
  where
    doubled : (k s : ℕ) → k * 2 ^ s + k * 2 ^ s ≡ k * 2 ^ suc s
    doubled k s = sym (ap (λ (n : ℕ). k * n) (pow-suc 2 s) ∙ omega arith)

pub difference_near : (k n : ℕ) (f : Pattern → ℕ) → ((P : Pattern) → f P ≤ k) → (J : Pattern) → length J ≡ n → Near k (size J) (difference n f J)
unfolding size difference all sign within alternating half
difference_near k zero f h [] e = record { size = omega (arith, h []); none = λ d. refl }
difference_near k zero f h (j ∷ J) e = absurd (omega arith)
difference_near k (suc n) f h [] e = absurd (omega arith)
difference_near k (suc n) f h (false ∷ J) e =
    let d : length J ≡ n = omega arith in
    subst (Near k (size J)) (sym (difference_out n f J)) (difference_near k n (λ P. f (false ∷ P)) (λ P. h (false ∷ P)) J d)
difference_near k (suc n) f h (true ∷ J) e =
    let d : length J ≡ n = omega arith in
    subst (Near k (suc (size J))) (sym (difference_in n f J))
    (near_sub k (size J) _ _ (difference_near k n (λ P. f (true ∷ P)) (λ P. h (true ∷ P)) J d) (difference_near k n (λ P. f (false ∷ P)) (λ P. h (false ∷ P)) J d))

pub Δ_near : (k : ℕ) (c : ℕ → ℕ) → ((i : ℕ) → c i ≤ k) → (j i : ℕ) → Near k j (Δ j c i)
unfolding Δ half
Δ_near k c h zero i = record { size = omega (arith, h i); none = λ e. refl }
Δ_near k c h (suc j) i = near_sub k j (Δ j c (suc i)) (Δ j c i) (Δ_near k c h j (suc i)) (Δ_near k c h j i)

-- ---- by counts, however many summands
S_part : (ls : List Exposure) (h : ℕ → ℕ) (m : ℕ) → below ◌+◌ 0 m (λ j. h j * S ls j) ≤ B ls h
unfolding below B all size times S
S_part ls h zero = omega arith
S_part [] h (suc m) =
    le_of_eq (firstℕ m (λ j. h j * S [] j)
    ∙ ap (λ (n : ℕ). h 0 * 1 + n) (below-same ◌+◌ 0 m _ (λ j. 0) (λ j. ap (λ (n : ℕ). h (suc j) * n) (S_past j) ∙ NatL.mul-zero (h (suc j))) ∙ below-map ◌+◌ 0 ◌+◌ (λ x. 0) (λ a b. refl) m (λ j. 0))
    ∙ NatL.add-zero (h 0 * 1))
S_part (l ∷ ls) h (suc m) =
    let r = l.present in
    let a = l.count in
    let G : ℕ → ℕ = λ j. h j * S ls j in
    let H : ℕ → ℕ = λ j. h (suc j) * S ls j in
    let p = mul-le-mul_left r (S_part ls h (suc m)) in
    let q = mul-le-mul_left a (S_part ls (λ j. h (suc j)) m) in
    le_trans
    (le_of_eq (firstℕ m (λ j. h j * S (l ∷ ls) j)
    ∙ ap₂ ◌+◌
    (ap (λ (n : ℕ). h 0 * n) (S-none l ls) ∙ NatL.mul_left_comm (h 0) r (S ls 0))
    (below-same ◌+◌ 0 m _ (λ j. r * G (suc j) + a * H j) (λ j. ap (λ (n : ℕ). h (suc j) * n) (S_more l ls j) ∙ step (h (suc j)) r a (S ls (suc j)) (S ls j))
    ∙ below_two ◌+◌ 0 refl add4 m (λ j. r * G (suc j)) (λ j. a * H j)
    ∙ ap₂ ◌+◌ (below_scale m r (λ j. G (suc j))) (below_scale m a H))
    ∙ joined r a (G 0) (below ◌+◌ 0 m (λ j. G (suc j))) (below ◌+◌ 0 m H)
    ∙ ap (λ (n : ℕ). r * n + a * below ◌+◌ 0 m H) (sym (firstℕ m G))))
    (le_trans (NatL.add-le-add p q) (le_of_eq (sym (B_cons l ls h))))
  where
    step : (u r a s t : ℕ) → u * (r * s + a * t) ≡ r * (u * s) + a * (u * t)
    step u r a s t = omega arith

    joined : (r a x y z : ℕ) → r * x + (r * y + a * z) ≡ r * (x + y) + a * z
    joined r a x y z = omega arith

-- k times the halves, over all sets
B_times : (k : ℕ) (ls : List Exposure) → B ls (λ j. k * half j) ≡ k * B ls half
unfolding B
B_times k ls =
    all_same ◌+◌ (length ls) _ (λ J. k * (half (size J) * times counted standing ls J)) (λ J. NatL.mul_assoc k (half (size J)) (times counted standing ls J))
    ∙ all_scale (length ls) k (λ J. half (size J) * times counted standing ls J)

-- twice k halves
twice : (k b t d : ℕ) → 2 * b ≤ t * d → 2 * (k * b) ≤ k * t * d
twice k b t d h = omega (arith, mul-le-mul_left k h)

-- the sizes of its summands
pub counts_sizes : (k : ℕ) (ls : List Exposure) (c : ℕ → ℕ) (m : ℕ) → Sound ls → ((i : ℕ) → c i ≤ k)
    → 2 * below ◌+◌ 0 m (λ j. nat_abs (Δ j c 0 *ℤ pos (S ls j))) ≤ k * (3 ^ busy ls + 1) * D ls
counts_sizes k ls c m s h =
    le_trans
    (mul-le-mul_left 2 (le_trans (below_le m _ (λ j. (k * half j) * S ls j) (λ j. le_trans (le_of_eq (abs_times (Δ j c 0) (S ls j))) (mul-le-mul_right (S ls j) (Δ_near k c h j 0).size)))
    (le_trans (S_part ls (λ j. k * half j) m) (le_of_eq (B_times k ls)))))
    (twice k (B ls half) (3 ^ busy ls + 1) (D ls) (B_half ls s))

pub counts_bound : (k : ℕ) (ls : List Exposure) (c : ℕ → ℕ) (m : ℕ) → Sound ls → ((i : ℕ) → c i ≤ k)
    → 2 * nat_abs (below ◌+ℤ◌ (pos 0) m (λ j. Δ j c 0 *ℤ pos (S ls j))) ≤ k * (3 ^ busy ls + 1) * D ls
counts_bound k ls c m s h = le_trans (mul-le-mul_left 2 (abs_below m (λ j. Δ j c 0 *ℤ pos (S ls j)))) (counts_sizes k ls c m s h)

-- ---- by subsets, at all of the sets or at those that a loop has met
pub subsets_bound : (k : ℕ) (ls : List Exposure) (f : Pattern → ℕ) (m : ℕ) → Sound ls → ((P : Pattern) → f P ≤ k) → m ≤ 2 ^ length ls
    → 2 * nat_abs (below ◌+ℤ◌ (pos 0) m (λ j. difference (length ls) f (flags (length ls) j) *ℤ pos (times counted standing ls (flags (length ls) j)))) ≤ k * (3 ^ busy ls + 1) * D ls
unfolding B
subsets_bound k ls f m s h hm =
    let n = length ls in
    let X : Pattern → ℕ = times counted standing ls in
    le_trans
    (mul-le-mul_left 2 (le_trans (abs_below m (λ j. difference n f (flags n j) *ℤ pos (X (flags n j))))
    (le_trans (below_le m _ (λ j. (k * half (size (flags n j))) * X (flags n j)) (λ j. le_trans (le_of_eq (abs_times (difference n f (flags n j)) (X (flags n j)))) (mul-le-mul_right (X (flags n j)) (difference_near k n f h (flags n j) (length-flags n j)).size)))
    (le_trans (below_part m (2 ^ n) (λ j. (k * half (size (flags n j))) * X (flags n j)) hm)
    (le_of_eq (bridgeℕ n (λ p J. (k * half (size J)) * X J) ∙ B_times k ls))))))
    (twice k (B ls half) (3 ^ busy ls + 1) (D ls) (B_half ls s))

pub upto : (k b c d x t : ℕ) → b ≤ c → 3 ^ c ≡ t → 2 * x ≤ k * (3 ^ b + 1) * d → 2 * x ≤ k * (t + 1) * d
upto k b c d x t h e g =
    let p : 3 ^ b ≤ t = le_trans (NatL.pow-le-pow_right (NatL.zero-lt-suc 2) h) (le_of_eq e) in
    omega (arith, mul-le-mul_left k (mul-le-mul_right d p))

-- ---- a product of a set, and S_j
pub product_bound : (ls : List Exposure) (J : Pattern) → Sound ls → length J ≡ length ls → times counted standing ls J ≤ D ls
unfolding times D
product_bound [] J s e = NatL.le_refl 1
product_bound (l ∷ ls) [] s e = absurd (omega arith)
product_bound (l ∷ ls) (true ∷ J) s e = let d : length J ≡ length ls = omega arith in mul-le-mul (s 0) (product_bound ls J (λ i. s (suc i)) d)
product_bound (l ∷ ls) (false ∷ J) s e = let d : length J ≡ length ls = omega arith in mul-le-mul_left l.present (product_bound ls J (λ i. s (suc i)) d)

step-S : (a r t d x y : ℕ) → a ≤ r → x ≤ t * d → y ≤ t * d → r * x + a * y ≤ (t * 2) * (r * d)
step-S a r t d x y h hx hy = omega (arith, mul-le-mul_left r hx, mul-le-mul_left r hy, mul-le-mul_right y h)

wider : (r t d : ℕ) → r * (t * d) ≤ (t * 2) * (r * d)
wider r t d = omega arith

S-first : S [] 0 ≤ 1
unfolding S all size times
S-first = NatL.le_refl 1

pub S_bound : (ls : List Exposure) (j : ℕ) → Sound ls → S ls j ≤ 2 ^ length ls * D ls
unfolding D
S_bound [] zero s = S-first
S_bound [] (suc j) s = le_trans (le_of_eq (S_past j)) (omega arith)
S_bound (l ∷ ls) zero s =
    le_trans (le_of_eq (S-none l ls))
    (le_trans (mul-le-mul_left l.present (S_bound ls zero (λ i. s (suc i)))) (le_trans (wider l.present (2 ^ length ls) (D ls)) (le_of_eq (ap (λ (n : ℕ). n * (l.present * D ls)) (sym (pow-suc 2 (length ls)))))))
S_bound (l ∷ ls) (suc j) s =
    le_trans (le_of_eq (S_more l ls j))
    (le_trans (step-S l.count l.present (2 ^ length ls) (D ls) _ _ (s 0) (S_bound ls (suc j) (λ i. s (suc i))) (S_bound ls j (λ i. s (suc i))))
    (le_of_eq (ap (λ (n : ℕ). n * (l.present * D ls)) (sym (pow-suc 2 (length ls))))))

-- the product of the set of no life is D
pub product-none : (ls : List Exposure) → times counted standing ls (flags (length ls) 0) ≡ D ls
unfolding times flags D
product-none [] = refl
product-none (l ∷ ls) = ap (λ (n : ℕ). l.present * n) (product-none ls)
