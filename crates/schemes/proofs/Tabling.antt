-- The tables by their lists.
use Rattle.std.proofs.Common.{◌≡◌, ℕ, ◌<◌, ◌≤◌, true, false, ◌&&◌, leb, List, [], ◌++◌, Ok, Err, Result, MatchResult, length, get_or, set, sym, refl, ap, ◌∙◌, inl, inr, arith}
use Rattle.std.proofs.lemmas.Bool.{cases_eq, and_parts, leb-true}
use Rattle.std.proofs.lemmas.List.{map-set, set-get_or, get_or-map, get_or-set_same, get_or-set_other, length-map}
use Rattle.arrayvec.specs.ArrayVec.{ArrayVec}
use Rattle.refusals.specs.declared.Refusal.{Refusal}
use Rattle.refusals.specs.declared.Refusal.TheVariants.{Counts}
use Rattle.lives.specs.Tables.{fairly, falls}
use Rattle.schemes.specs.Most.{year_count}
use Rattle.schemes.specs.Counts.{Sound, lists}

-- a table by its number
pub lists_at : (ts : List (ArrayVec ℕ)) (i : ℕ) (other : ArrayVec ℕ) → i < length ts → (get_or ts i other).items ≡ get_or (lists ts) i []
lists_at ts i other h = sym (get_or-map (λ v. v.items) ts i other [] h)

-- the lists after a table is changed
pub lists-set : (ts : List (ArrayVec ℕ)) (i : ℕ) (t : ArrayVec ℕ) (xs : List ℕ) → t.items ≡ xs → lists (set ts i t) ≡ set (lists ts) i xs
lists-set ts i t xs e = map-set (λ v. v.items) ts i t ∙ ap (set (lists ts) i) e

-- and after it is left as it was
pub lists_kept : (ts : List (ArrayVec ℕ)) (i : ℕ) (t : ArrayVec ℕ) → t.items ≡ get_or (lists ts) i [] → lists (set ts i t) ≡ lists ts
lists_kept ts i t e = lists-set ts i t _ e ∙ set-get_or (lists ts) i []

-- a list that makes a life is no longer than a life
pub fair-short : (xs : List ℕ) → fairly xs ≡ true → length xs ≤ year_count
fair-short xs e = leb-true (length xs) 121 (and_parts (leb (length xs) 121) (falls 1000000 xs) e).0

-- a table keeps its bound when counts are appended, or refused
pub appended-short : {X : Type 0} (r : Result X Refusal) (old new more : List ℕ) → MatchResult r (λ _. (fairly (old ++ more) ≡ true) × (new ≡ old ++ more)) (λ e. (e ≡ Counts) × (fairly (old ++ more) ≡ false) × (new ≡ old)) → length old ≤ year_count → length new ≤ year_count
appended-short (Ok x) old new more h s = omega (arith, fair-short (old ++ more) h.0, ap length h.1)
appended-short (Err e) old new more h s = omega (arith, s, ap length h.2)

-- the tables keep their bound when one of them is changed to one that keeps it
pub sound_set : (ts : List (ArrayVec ℕ)) (i : ℕ) (t : ArrayVec ℕ) → Sound ts → i < length ts → length t.items ≤ year_count → Sound (set ts i t)
sound_set ts i t s h k j =
    let e = lists-set ts i t t.items refl in
    elim (cases_eq j i) [
      | inl q ↦ omega (arith, k, ap length (ap (λ (xs : List (List ℕ)). get_or xs j []) e ∙ (ap (λ n. get_or (set (lists ts) i t.items) n []) q ∙ get_or-set_same (lists ts) i t.items [] (omega (arith, h, length-map ts (λ (v : ArrayVec ℕ). v.items))))))
      | inr q ↦ omega (arith, s j, ap length (ap (λ (xs : List (List ℕ)). get_or xs j []) e ∙ get_or-set_other (lists ts) i j t.items [] q))
    ]
