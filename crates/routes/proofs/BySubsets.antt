-- The loops over patterns and sets of the route by subsets: what they add, and how far from 0 their sums can be.
use Rattle.std.proofs.Common.{◌≡◌, ℕ, zero, suc, ◌+◌, ◌*◌, ◌^◌, ◌<◌, ◌≤◌, List, length, ℤ, pos, ◌+ℤ◌, ◌*ℤ◌, nat_abs, sym, refl, ap, ◌∙◌, subst, le_trans, le_of_eq, mul-le-mul, arith}
use Rattle.patterns.specs.Patterns.{Pattern, flags, number, below}
use Rattle.patterns.proofs.Loops.{below_none, below_next, below-same, abs_add}
use Rattle.patterns.proofs.Bridge.{bridgeℤ}
use Rattle.weights.specs.declared.exposure.Exposure.{Exposure}
use Rattle.weights.specs.Exposures.{counted, standing, Sound, D}
use Rattle.weights.specs.Differences.{sign}
use Rattle.weights.specs.Routes.{set_difference, reach}
use Rattle.weights.specs.Patterns.{times}
use Rattle.weights.specs.AllSeats.{difference, by_subsets}
use Rattle.weights.proofs.Bounds.{abs_times, subsets_bound, busy, busy_le}
use Rattle.weights.proofs.Agreement.{reaches}
use Rattle.routes.proofs.Deltas.{sign-size}

-- ---- the difference of the set j, to the m-th pattern
unfoldable pub difference_to : ℕ → (ℕ → ℕ) → ℕ → ℕ → ℤ
difference_to n f j m = below ◌+ℤ◌ (pos 0) m (λ p. sign (flags n j) (flags n p) *ℤ pos (f p))

pub sign-times : (J P : Pattern) (x : ℕ) → x ≤ 20 → nat_abs (sign J P *ℤ pos x) ≤ 20
sign-times J P x h = le_trans (le_of_eq (abs_times (sign J P) x)) (mul-le-mul (sign-size J P) h)

module _ (n : ℕ) (f : ℕ → ℕ) (j : ℕ) where
  pub difference-none : difference_to n f j 0 ≡ pos 0
  unfolding difference_to
  difference-none = below_none ◌+ℤ◌ (pos 0) _

  pub difference_next : (m : ℕ) → difference_to n f j (m + 1) ≡ difference_to n f j m +ℤ sign (flags n j) (flags n m) *ℤ pos (f m)
  unfolding difference_to
  difference_next m = below_next ◌+ℤ◌ (pos 0) (λ p. sign (flags n j) (flags n p) *ℤ pos (f p)) m

  pub difference_small : ((p : ℕ) → f p ≤ 20) → (m : ℕ) → nat_abs (difference_to n f j m) ≤ 20 * m
  unfolding difference_to below
  difference_small h zero = omega arith
  difference_small h (suc m) =
      omega (arith, abs_add (difference_to n f j m) (sign (flags n j) (flags n m) *ℤ pos (f m)), difference_small h m, sign-times (flags n j) (flags n m) (f m) (h m))

  pub difference-all : difference_to n f j (2 ^ n) ≡ set_difference n f j
  unfolding difference_to set_difference
  difference-all = refl

-- ---- the sum over the sets
-- what the set j adds
unfoldable pub set_term : List Exposure → ℕ → (ℕ → ℕ) → ℕ → ℤ
set_term ls n f j = set_difference n f j *ℤ pos (times counted standing ls (flags n j))

module _ (ls : List Exposure) (n : ℕ) (f : ℕ → ℕ) (long : length ls ≡ n) where
  term_is : (j : ℕ) → set_term ls n f j ≡ difference (length ls) (λ P. f (number P)) (flags (length ls) j) *ℤ pos (times counted standing ls (flags (length ls) j))
  unfolding set_term set_difference difference
  term_is j =
      ap (λ (d : ℤ). d *ℤ pos (times counted standing ls (flags n j))) (bridgeℤ n (λ p P. sign (flags n j) P *ℤ pos (f p)))
      ∙ ap (λ (m : ℕ). difference m (λ P. f (number P)) (flags m j) *ℤ pos (times counted standing ls (flags m j))) (sym long)

  sets_whole : below ◌+ℤ◌ (pos 0) (2 ^ n) (set_term ls n f) ≡ by_subsets ls (λ P. f (number P))
  unfolding by_subsets
  sets_whole =
      below-same ◌+ℤ◌ (pos 0) (2 ^ n) _ _ term_is
      ∙ ap (λ (m : ℕ). below ◌+ℤ◌ (pos 0) (2 ^ m) (λ j. difference (length ls) (λ P. f (number P)) (flags (length ls) j) *ℤ pos (times counted standing ls (flags (length ls) j)))) (sym long)
      ∙ bridgeℤ (length ls) (λ j J. difference (length ls) (λ P. f (number P)) J *ℤ pos (times counted standing ls J))

  pub sets_done : (z : ℤ) (m : ℕ) → z ≡ below ◌+ℤ◌ (pos 0) m (set_term ls n f) → m ≡ 2 ^ n → z ≡ by_subsets ls (λ P. f (number P))
  sets_done z m e h = e ∙ ap (λ (k : ℕ). below ◌+ℤ◌ (pos 0) k (set_term ls n f)) h ∙ sets_whole

  pub sets_part : Sound ls → ((p : ℕ) → f p ≤ 20) → (m : ℕ) → m < 2 ^ n → nat_abs (below ◌+ℤ◌ (pos 0) m (set_term ls n f) +ℤ set_term ls n f m) ≤ reach n * D ls
  sets_part s h m hm =
      le_trans (le_of_eq (ap nat_abs (sym (below_next ◌+ℤ◌ (pos 0) (set_term ls n f) m) ∙ below-same ◌+ℤ◌ (pos 0) (m + 1) _ _ term_is)))
      (reaches (busy ls) n (D ls) _ (le_trans (busy_le ls) (le_of_eq long)) (subsets_bound 20 ls (λ P. f (number P)) (m + 1) s (λ P. h (number P)) (subst (λ (k : ℕ). m < 2 ^ k → m + 1 ≤ 2 ^ k) (sym long) (λ q. omega arith) (subst (λ (k : ℕ). m < 2 ^ k) (sym long) hm))))
