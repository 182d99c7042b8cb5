-- A projection worked year by year over the counts below.
use Rattle.std.proofs.Common.{◌≡◌, ℕ, zero, suc, ◌+◌, ◌-◌, ◌<◌, ◌≤◌, ◌≢◌, List, [], ◌∷◌, ◌++◌, length, get_or, take, drop, refl, ap, ◌∙◌, add-one, arith}
use Rattle.std.proofs.Math.ListN.{get_or-append}
use Rattle.std.proofs.lemmas.List.{length-append, length-drop}
use Rattle.std.proofs.lemmas.Bool.{ne_eqb}
use Rattle.lives.specs.Column.{column}
use Rattle.lives.specs.Projection.{deaths, projected}
use Rattle.lives.specs.Projections.{projected_next}
use Rattle.lives.proofs.Columns.{column_from}

-- at most those alive die
pub deaths-most : (here next factor alive : ℕ) → deaths here next factor alive ≤ alive
unfolding deaths
deaths-most here next factor alive = omega arith

pub projected-first : (l f : ℕ → ℕ) → projected l f 0 ≡ l 0
unfolding projected
projected-first l f = refl

-- a year after which somebody is left
pub projected-on : (l f : ℕ → ℕ) (t : ℕ) → (l (t + 1) ≢ 0) → projected l f (t + 1) ≡ projected l f t - deaths (l t) (l (t + 1)) (f t) (projected l f t)
projected-on l f t some = projected_next l f t ∙ rw (ne_eqb (l (t + 1)) 0 some)

-- a column whose first count is followed by the counts of the later years
pub column_onward : (f : ℕ → ℕ) (xs ys : List ℕ) → length xs ≡ 121 → length ys ≡ 120 → get_or xs 0 0 ≡ f 0 → ((k : ℕ) → k < 120 → get_or ys k 0 ≡ f (k + 1)) → take 1 xs ++ (ys ++ drop 120 (drop 1 xs)) ≡ column f
column_onward f [] ys long short first later = let none : ⊥ = omega arith in absurd none
column_onward f (x ∷ xs) ys long short first later =
    column_from f (x ∷ (ys ++ drop 120 xs)) (omega (arith, length-append ys (drop 120 xs), length-drop 120 xs)) (at first later)
  where
    at : (x ≡ f 0) → ((k : ℕ) → k < 120 → get_or ys k 0 ≡ f (k + 1)) → (k : ℕ) → k < 121 → get_or (x ∷ (ys ++ drop 120 xs)) k 0 ≡ f k
    at first later zero h = first
    at first later (suc k) h = get_or-append ys (drop 120 xs) 0 k (omega arith) ∙ later k (omega arith) ∙ ap f (add-one k)
