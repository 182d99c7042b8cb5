-- The loop that sums out one seat, in place: what is done, and what is still as it was.
use Rattle.std.proofs.Common.{◌≡◌, ℕ, ◌+◌, ◌*◌, ◌<◌, ◌≤◌, ◌≢◌, List, length, get_or, set, ◌∙◌, ap₂, mul-le-mul_right, arith, length-set, get_or-set_other, get_or-set_same, below_more}
use Rattle.weights.specs.declared.exposure.Exposure.{Exposure}
use Rattle.weights.specs.Exposures.{gone}
use Rattle.weights.specs.Patterns.{pair}

-- before the turn of the number i
pub record Summing (x : Exposure) (others : ℕ) (before : List ℕ) (i : ℕ) (sums : List ℕ) : Type 0 where
  pub long : length sums ≡ length before
  pub done : (k : ℕ) → k < i → get_or sums k 0 ≡ pair x others before k
  pub rest : (k : ℕ) → i ≤ k → get_or sums k 0 ≡ get_or before k 0

module _ {x : Exposure} {others : ℕ} {before : List ℕ} {i : ℕ} {sums : List ℕ} (s : Summing x others before i sums) where
  -- what the turn reads is as it was
  pub pair_now : pair x others sums i ≡ pair x others before i
  pair_now = ap₂ (λ (a b : ℕ). gone x * a + x.count * b) (s.rest i (omega arith)) (s.rest (i + others) (omega arith))

  pub sum_next : i < length sums → (v : ℕ) → v ≡ pair x others sums i → Summing x others before (i + 1) (set sums i v)
  sum_next h v e = record {
    long = length-set sums i v ∙ s.long;
    done = below_more _ _ (λ k q. let ne : k ≢ i = omega arith in rw get_or-set_other (s.done k q)) (rw get_or-set_same (e ∙ pair_now));
    rest = λ k q. let ne : k ≢ i = omega arith in rw get_or-set_other (s.rest k (omega arith));
  }

-- how large a pair can be
pub pair_bound : (x : Exposure) (a b m : ℕ) → x.count ≤ x.present → a * x.present ≤ m → b * x.present ≤ m → gone x * a + x.count * b ≤ m + m
pair_bound x a b m s p q = omega (arith, mul-le-mul_right a (gone_le x), mul-le-mul_right b s)
  where
    gone_le : (x : Exposure) → gone x ≤ x.present
    gone_le x = omega arith
