-- The routes over the named seats alone: they agree, and no sum on the way is far from 0. For any number of seats.
use Rattle.std.proofs.Common.{◌≡◌, ℕ, zero, suc, ◌+◌, ◌*◌, ◌^◌, ◌<◌, ◌≤◌, Bool, true, false, cond, T, eqb, List, [], ◌∷◌, length, ℤ, pos, ◌+ℤ◌, ◌*ℤ◌, nat_abs, sym, refl, ap, ◌∙◌, subst, ap₂, le_trans, le_of_eq, add-zero, add-suc, arith}
use lib.Dec.{eqb-zero-suc}
use lib.IntN.{*ℤ-zero, +ℤ_idr}
use Rattle.patterns.specs.Patterns.{Pattern, size, number, flags, all, below}
use Rattle.patterns.proofs.Loops.{below-same, below_upto, below_part}
use Rattle.patterns.proofs.Bridge.{bridgeℕ, bridgeℤ}
use Rattle.patterns.proofs.Masks.{length-flags, size_le}
use Rattle.weights.specs.declared.exposure.Exposure.{Exposure}
use Rattle.weights.specs.Exposures.{counted, standing, gone, lost, Sound, D}
use Rattle.weights.specs.Differences.{sign, Δ}
use Rattle.weights.specs.Numbers.{uneven, share_with}
use Rattle.weights.specs.Weights.{times_of, inside, pattern_term, weight}
use Rattle.weights.specs.Routes.{set_difference, set_product, subset_term, symmetric_sum, count_term, reach}
use Rattle.weights.specs.Patterns.{kept, times, by_patterns}
use Rattle.weights.specs.AllSeats.{difference, by_subsets, S}
use Rattle.weights.proofs.Subsets.{subsets}
use Rattle.weights.proofs.Counts.{S_more, route, counts_any}
use Rattle.weights.proofs.Bounds.{patterns_bound, subsets_bound, counts_bound, busy, busy-kept, upto}
use Rattle.weights.proofs.Named.{length-kept, product-kept, chosen, weight-kept}
use Rattle.weights.proofs.Evens.{even_with, share_le}

chosenℤ : (b : Bool) (z : ℤ) (n : ℕ) → cond b (z *ℤ pos n) (pos 0) ≡ z *ℤ pos (cond b n 0)
chosenℤ true z n = refl
chosenℤ false z n = sym (*ℤ-zero z)

swapped : (b e : Bool) (n : ℕ) → cond b (cond e n 0) 0 ≡ cond e (cond b n 0) 0
swapped true e n = refl
swapped false true n = refl
swapped false false n = refl

only : (b : Bool) {x y : ℕ} → (T b → x ≡ y) → cond b x 0 ≡ cond b y 0
only true h = h tt
only false h = refl

-- ---- the summands, with a failed seat in place of each that is not named
module _ (ls : List Exposure) (N : ℕ) where
  abbrev n : ℕ
  n = length ls

  abbrev held : List Exposure
  held = kept (flags (length ls) N) ls

  pub difference_is : (f : ℕ → ℕ) (j : ℕ) → set_difference (length ls) f j ≡ difference (length ls) (λ P. f (number P)) (flags (length ls) j)
  unfolding set_difference difference
  difference_is f j = bridgeℤ n (λ p P. sign (flags n j) P *ℤ pos (f p))

  subset_term_is : (f : ℕ → ℕ) (j : ℕ) → subset_term ls N f j ≡ difference n (λ P. f (number P)) (flags n j) *ℤ pos (times counted standing held (flags n j))
  subset_term_is f j = chosenℤ (inside ls N j) (set_difference n f j) (set_product ls N j) ∙ ap₂ (λ (d : ℤ) (m : ℕ). d *ℤ pos m) (difference_is f j) (product-kept counted standing refl refl ls N j)

  subsets_are : (f : ℕ → ℕ) → below ◌+ℤ◌ (pos 0) (2 ^ n) (subset_term ls N f) ≡ by_subsets held (λ P. f (number P))
  unfolding by_subsets
  subsets_are f =
      below-same ◌+ℤ◌ (pos 0) (2 ^ n) _ (λ j. difference n (λ P. f (number P)) (flags n j) *ℤ pos (times counted standing held (flags n j))) (subset_term_is f)
      ∙ bridgeℤ n (λ j J. difference n (λ P. f (number P)) J *ℤ pos (times counted standing held J))
      ∙ ap (λ (k : ℕ). all ◌+ℤ◌ k (λ J. difference k (λ P. f (number P)) J *ℤ pos (times counted standing held J))) (sym (length-kept (flags n N) ls))

  pub symmetric-kept : (k : ℕ) → symmetric_sum ls N k ≡ S (kept (flags (length ls) N) ls) k
  unfolding symmetric_sum S
  symmetric-kept k =
      below-same ◌+◌ 0 (2 ^ n) _ (λ j. cond (eqb (size (flags n j)) k) (times counted standing held (flags n j)) 0)
      (λ j. swapped (inside ls N j) (eqb (size (flags n j)) k) (set_product ls N j) ∙ ap (λ (m : ℕ). cond (eqb (size (flags n j)) k) m 0) (product-kept counted standing refl refl ls N j))
      ∙ bridgeℕ n (λ j J. cond (eqb (size J) k) (times counted standing held J) 0)
      ∙ ap (λ (m : ℕ). all ◌+◌ m (λ J. cond (eqb (size J) k) (times counted standing held J) 0)) (sym (length-kept (flags n N) ls))

  -- the summands see the share only at patterns within N
  shares : (f h : ℕ → ℕ) → ((p : ℕ) → p < 2 ^ n → T (inside ls N p) → f p ≡ h p) → weight ls N f ≡ weight ls N h
  shares f h e = below_upto ◌+◌ 0 (2 ^ n) _ _ (λ p k. only (inside ls N p) (λ t. ap (λ (m : ℕ). m * times_of (flags n N) counted gone ls (flags n p)) (e p k t)))

  by_sizes : (c : ℕ → ℕ) → weight ls N (λ p. c (size (flags n p))) ≡ by_patterns held (λ P. c (size P))
  unfolding by_patterns
  by_sizes c =
      below-same ◌+◌ 0 (2 ^ n) _ (λ p. c (size (flags n p)) * times counted gone held (flags n p))
      (λ p. chosen (inside ls N p) (c (size (flags n p))) (times_of (flags n N) counted gone ls (flags n p)) ∙ ap (λ (m : ℕ). c (size (flags n p)) * m) (product-kept counted gone refl refl ls N p))
      ∙ bridgeℕ n (λ p P. c (size P) * times counted gone held P)
      ∙ ap (λ (m : ℕ). all ◌+◌ m (λ P. c (size P) * times counted gone held P)) (sym (length-kept (flags n N) ls))

-- ---- by counts
S_past : (N : Pattern) (ls : List Exposure) (j : ℕ) → size N < j → S (kept N ls) j ≡ 0
unfolding size kept S all times
S_past N ls zero h = absurd (omega arith)
S_past [] [] (suc j) h = ap (λ b. cond b 1 0) (eqb-zero-suc j)
S_past (b ∷ N) [] (suc j) h = ap (λ b. cond b 1 0) (eqb-zero-suc j)
S_past [] (l ∷ ls) (suc j) h = S_more lost (kept [] ls) j ∙ omega (arith, S_past [] ls (suc j) h)
S_past (false ∷ N) (l ∷ ls) (suc j) h = S_more lost (kept N ls) j ∙ omega (arith, S_past N ls (suc j) h)
S_past (true ∷ N) (l ∷ ls) (suc j) h =
    let k : size N < j = omega arith in
    let k' : size N < suc j = omega arith in
    S_more l (kept N ls) j
    ∙ ap₂ (λ (u v : ℕ). l.present * u + l.count * v) (S_past N ls (suc j) k') (S_past N ls j k)
    ∙ omega arith

pub symmetric_past : (ls : List Exposure) (N k : ℕ) → size (flags (length ls) N) < k → symmetric_sum ls N k ≡ 0
symmetric_past ls N k h = symmetric-kept ls N k ∙ S_past (flags (length ls) N) ls k h

-- past the number of the named, nothing is added
route_past : (N : Pattern) (ls : List Exposure) (c : ℕ → ℕ) (m d : ℕ) → size N < m → route (kept N ls) c (m + d) ≡ route (kept N ls) c m
unfolding route below
route_past N ls c m zero h = ap (route (kept N ls) c) (add-zero m)
route_past N ls c m (suc d) h =
    let k : size N < m + d = omega arith in
    ap (route (kept N ls) c) (add-suc m d)
    ∙ ap₂ (λ (y : ℤ) (n : ℕ). y +ℤ Δ (m + d) c 0 *ℤ pos n) (route_past N ls c m d h) (S_past N ls (m + d) k)
    ∙ ap (λ z. route (kept N ls) c m +ℤ z) (*ℤ-zero (Δ (m + d) c 0))
    ∙ +ℤ_idr (route (kept N ls) c m)

-- ---- the routes agree
module _ (ls : List Exposure) (N : ℕ) (f : ℕ → ℕ) (s : Sound (kept (flags (length ls) N) ls)) where
  pub subsets_agree : below ◌+ℤ◌ (pos 0) (2 ^ length ls) (subset_term ls N f) ≡ pos (weight ls N f)
  subsets_agree = subsets_are ls N f ∙ subsets (held ls N) (λ P. f (number P)) s ∙ ap pos (weight-kept ls N f)

  -- the share by number, where they are even
  pub numbers_agree : uneven (length ls) f N ≡ false → by_patterns (kept (flags (length ls) N) ls) (λ P. share_with (length ls) f N (size P)) ≡ weight ls N f
  numbers_agree e = sym (shares ls N f (λ p. share_with (length ls) f N (size (flags (length ls) p))) (even_with (length ls) f N e) ∙ by_sizes ls N (share_with (length ls) f N))

  pub counts_agree : uneven (length ls) f N ≡ false → below ◌+ℤ◌ (pos 0) (size (flags (length ls) N) + 1) (count_term ls N f) ≡ pos (weight ls N f)
  unfolding route
  counts_agree e =
      let M = flags (length ls) N in
      let c = share_with (length ls) f N in
      let m = size M + 1 in
      let k : length (held ls N) < m + length ls = omega (arith, length-kept M ls) in
      let h : size M < m = omega arith in
      below-same ◌+ℤ◌ (pos 0) m _ (λ j. Δ j c 0 *ℤ pos (S (held ls N) j)) (λ j. ap (λ (i : ℕ). Δ j c 0 *ℤ pos i) (symmetric-kept ls N j))
      ∙ sym (route_past M ls c m (length ls) h)
      ∙ counts_any (held ls N) c (m + length ls) s k
      ∙ ap pos (numbers_agree e)

-- ---- on the way
pub reaches : (b n d x : ℕ) → b ≤ n → 2 * x ≤ 20 * (3 ^ b + 1) * d → x ≤ reach n * d
reaches b n d x h g = omega (arith, upto 20 b n d x (3 ^ n) h refl g)

module _ (ls : List Exposure) (N : ℕ) (f : ℕ → ℕ) (s : Sound (kept (flags (length ls) N) ls)) (most : (p : ℕ) → f p ≤ 20) where
  few : busy (held ls N) ≤ length ls
  few = le_trans (busy-kept (flags (length ls) N) ls) (le_trans (size_le (flags (length ls) N)) (le_of_eq (length-flags (length ls) N)))

  pub patterns_way : (m : ℕ) → m ≤ 2 ^ length ls → below ◌+◌ 0 m (pattern_term ls N f) ≤ 20 * D (kept (flags (length ls) N) ls)
  patterns_way m h =
      le_trans (below_part m (2 ^ length ls) (pattern_term ls N f) h)
      (le_trans (le_of_eq (sym (weight-kept ls N f))) (patterns_bound 20 (held ls N) (λ P. f (number P)) s (λ P. most (number P))))

  pub subsets_way : (m : ℕ) → m ≤ 2 ^ length ls → nat_abs (below ◌+ℤ◌ (pos 0) m (subset_term ls N f)) ≤ reach (length ls) * D (kept (flags (length ls) N) ls)
  subsets_way m hm =
      let Q : ℕ → Type 0 = λ n. m ≤ 2 ^ n → 2 * nat_abs (below ◌+ℤ◌ (pos 0) m (λ j. difference n (λ P. f (number P)) (flags n j) *ℤ pos (times counted standing (held ls N) (flags n j)))) ≤ 20 * (3 ^ busy (held ls N) + 1) * D (held ls N) in
      le_trans (le_of_eq (ap nat_abs (below-same ◌+ℤ◌ (pos 0) m _ _ (subset_term_is ls N f))))
      (reaches (busy (held ls N)) (length ls) (D (held ls N)) _ few
      (subst Q (length-kept (flags (length ls) N) ls) (subsets_bound 20 (held ls N) (λ P. f (number P)) m s (λ P. most (number P))) hm))

  pub counts_way : (m : ℕ) → nat_abs (below ◌+ℤ◌ (pos 0) m (count_term ls N f)) ≤ reach (length ls) * D (kept (flags (length ls) N) ls)
  counts_way m =
      let c = share_with (length ls) f N in
      le_trans (le_of_eq (ap nat_abs (below-same ◌+ℤ◌ (pos 0) m _ _ (λ j. ap (λ (i : ℕ). Δ j c 0 *ℤ pos i) (symmetric-kept ls N j)))))
      (reaches (busy (held ls N)) (length ls) (D (held ls N)) _ few
      (counts_bound 20 (held ls N) c m s (λ i. share_le (length ls) f N (2 ^ length ls) i 20 most)))
