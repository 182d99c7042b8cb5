-- The loops over sets and orders of the route by counts: what they add, and how far from 0 their sums can be.
use Rattle.std.proofs.Common.{◌≡◌, ℕ, suc, ◌+◌, ◌*◌, ◌^◌, ◌<◌, ◌≤◌, Bool, cond, eqb, ◌≢◌, List, length, ℤ, pos, ◌+ℤ◌, ◌*ℤ◌, nat_abs, sym, ap, ◌∙◌, subst, le_trans, le_of_eq, le-add_left, add-one, arith, eq-eqb, ne_eqb}
use lib.Count.{ones}
use Rattle.patterns.specs.Patterns.{size, flags, below}
use Rattle.patterns.proofs.Loops.{below_next, below_part}
use Rattle.patterns.proofs.Bridge.{bridgeℕ}
use Rattle.patterns.proofs.Masks.{ones_size}
use Rattle.weights.specs.declared.exposure.Exposure.{Exposure}
use Rattle.weights.specs.Exposures.{counted, standing, Sound, D}
use Rattle.weights.specs.Differences.{Δ}
use Rattle.weights.specs.Routes.{reach}
use Rattle.weights.specs.Patterns.{times}
use Rattle.weights.specs.AllSeats.{S, by_counts}
use Rattle.weights.proofs.Bounds.{S_bound, counts_sizes, counts_bound, busy, busy_le}
use Rattle.weights.proofs.Agreement.{reaches}

-- ---- the sum over the sets of j members
-- what the set p adds
unfoldable pub members_term : List Exposure → ℕ → ℕ → ℕ → ℕ
members_term ls n j p = cond (eqb (size (flags n p)) j) (times counted standing ls (flags n p)) 0

module _ (ls : List Exposure) (n j p : ℕ) (h : p < 2 ^ n) where
  pub members_yes : ones p ≡ j → members_term ls n j p ≡ times counted standing ls (flags n p)
  unfolding members_term
  members_yes o = ap (λ (b : Bool). cond b (times counted standing ls (flags n p)) 0) (eq-eqb (size (flags n p)) j (sym (ones_size n p h) ∙ o))

  pub members_no : ones p ≢ j → members_term ls n j p ≡ 0
  unfolding members_term
  members_no o = ap (λ (b : Bool). cond b (times counted standing ls (flags n p)) 0) (ne_eqb (size (flags n p)) j (λ i. o (ones_size n p h ∙ i)))

module _ (ls : List Exposure) (n j : ℕ) (long : length ls ≡ n) where
  pub members_whole : below ◌+◌ 0 (2 ^ n) (members_term ls n j) ≡ S ls j
  unfolding S members_term
  members_whole =
      ap (λ (k : ℕ). below ◌+◌ 0 (2 ^ k) (λ p. cond (eqb (size (flags k p)) j) (times counted standing ls (flags k p)) 0)) (sym long)
      ∙ bridgeℕ (length ls) (λ p J. cond (eqb (size J) j) (times counted standing ls J) 0)

  pub members_part : Sound ls → (m : ℕ) → m < 2 ^ n → below ◌+◌ 0 m (members_term ls n j) + members_term ls n j m ≤ 2 ^ n * D ls
  members_part s m hm =
      le_trans (le_of_eq (sym (below_next ◌+◌ 0 (members_term ls n j) m)))
      (le_trans (below_part (m + 1) (2 ^ n) (members_term ls n j) (omega arith))
      (le_trans (le_of_eq members_whole) (subst (λ (k : ℕ). S ls j ≤ 2 ^ k * D ls) long (S_bound ls j s))))

-- ---- the sum over the orders
-- what the order j adds
unfoldable pub order_term : List Exposure → (ℕ → ℕ) → ℕ → ℤ
order_term ls c j = Δ j c 0 *ℤ pos (S ls j)

module _ (ls : List Exposure) (c : ℕ → ℕ) (n : ℕ) (long : length ls ≡ n) where
  orders_whole : below ◌+ℤ◌ (pos 0) (n + 1) (order_term ls c) ≡ by_counts ls c
  unfolding order_term by_counts
  orders_whole = ap (λ (k : ℕ). below ◌+ℤ◌ (pos 0) k (order_term ls c)) (add-one n ∙ ap suc (sym long))

  pub orders_done : (z : ℤ) (m : ℕ) → z ≡ below ◌+ℤ◌ (pos 0) m (order_term ls c) → m ≡ n + 1 → z ≡ by_counts ls c
  orders_done z m e h = e ∙ ap (λ (k : ℕ). below ◌+ℤ◌ (pos 0) k (order_term ls c)) h ∙ orders_whole

  module _ (s : Sound ls) (h : (i : ℕ) → c i ≤ 20) where
    few : busy ls ≤ n
    few = le_trans (busy_le ls) (le_of_eq long)

    pub orders_part : (m : ℕ) → nat_abs (below ◌+ℤ◌ (pos 0) m (order_term ls c) +ℤ order_term ls c m) ≤ reach n * D ls
    unfolding order_term
    orders_part m = le_trans (le_of_eq (ap nat_abs (sym (below_next ◌+ℤ◌ (pos 0) (order_term ls c) m)))) (reaches (busy ls) n (D ls) _ few (counts_bound 20 ls c (m + 1) s h))

    pub order_small : (j : ℕ) → nat_abs (order_term ls c j) ≤ reach n * D ls
    unfolding order_term below
    order_small j =
        le_trans (le-add_left (nat_abs (order_term ls c j)) (below ◌+◌ 0 j (λ i. nat_abs (order_term ls c i))))
        (reaches (busy ls) n (D ls) (below ◌+◌ 0 (suc j) (λ i. nat_abs (order_term ls c i))) few (counts_sizes 20 ls c (suc j) s h))
