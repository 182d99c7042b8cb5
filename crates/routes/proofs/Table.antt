-- The table of signs is right: one test of all its entries, which antt computes.
use Rattle.std.proofs.Common.{◌≡◌, ℕ, zero, suc, ◌<◌, Bool, true, false, cond, ◌&&◌, T, eqb, List, [], get_or, ℤ, pos, negsuc, refl, ap, arith, eqb→eq, w8, to_z, of_z}
use native.Mathlib.Decide.{ℕ_discrete}
use Rattle.patterns.specs.Seats.{seats, patterns}
use Rattle.patterns.specs.Patterns.{flags}
use Rattle.weights.specs.Differences.{sign}
use Rattle.routes.specs.declared.signs.Row.{Row}

abbrev same : ℤ → ℤ → Bool
same (pos a) (pos b) = eqb a b
same (negsuc a) (negsuc b) = eqb a b
same (pos a) (negsuc b) = false
same (negsuc a) (pos b) = false

same_is : (x y : ℤ) → T (same x y) → x ≡ y
same_is (pos a) (pos b) t = ap pos (eqb→eq a b t)
same_is (negsuc a) (negsuc b) t = ap negsuc (eqb→eq a b t)
same_is (pos a) (negsuc b) t = absurd t
same_is (negsuc a) (pos b) t = absurd t

abbrev every : ℕ → (ℕ → Bool) → Bool
every zero f = true
every (suc m) f = f m && every m f

left : (a b : Bool) → T (a && b) → T a
left true b t = tt
left false b t = t

right : (a b : Bool) → T (a && b) → T b
right true b t = t
right false b t = absurd t

every-at : (m : ℕ) (f : ℕ → Bool) → T (every m f) → (k : ℕ) → k < m → T (f k)
every-at zero f t k h = absurd (omega arith)
every-at (suc m) f t k h = go (every-at m f (right (f m) (every m f) t) k) (ℕ_discrete k m)
  where
    go : (k < m → T (f k)) → Dec (k ≡ m) → T (f k)
    go rest (yes e) = rw e (left (f m) (every m f) t)
    go rest (no n) = rest (omega arith)

-- the entry of a table
abbrev pub entry : List Row → ℕ → ℕ → ℤ
entry rows j p = to_z w8 (of_z w8 (get_or (get_or rows j (record { signs = [] })).signs p (pos 0)))

-- the test of an entry
abbrev test : List Row → ℕ → ℕ → Bool
test rows j p = same (entry rows j p) (sign (flags seats j) (flags seats p))

abbrev pub passes : List Row → Bool
passes rows = every patterns (λ j. every patterns (test rows j))

module _ (rows : List Row) (j p : ℕ) (hj : j < patterns) (hp : p < patterns) where
  at_once : T (passes rows) → entry rows j p ≡ sign (flags seats j) (flags seats p)
  at_once t = same_is _ _ (every-at patterns (test rows j) (every-at patterns (λ j. every patterns (test rows j)) t j hj) p hp)

  -- as a rule for `rw`, which reads the table off the code: where the table passes the test, an entry is its sign
  pub entry_is : entry rows j p ≡ cond (passes rows) (sign (flags seats j) (flags seats p)) (entry rows j p)
  entry_is = go (passes rows) at_once
    where
      go : (b : Bool) → (T b → entry rows j p ≡ sign (flags seats j) (flags seats p)) → entry rows j p ≡ cond b (sign (flags seats j) (flags seats p)) (entry rows j p)
      go true h = h tt
      go false h = refl
