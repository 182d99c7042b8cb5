-- Lists that make a life, by the test.
use Rattle.std.proofs.Common.{◌≡◌, ℕ, zero, suc, ◌+◌, ◌<◌, ◌≤◌, Bool, true, false, leb, List, [], ◌∷◌, length, get_or, sym, refl, ⊎_elim, add-one, arith}
use Rattle.std.specs.List.{IsAllAdjacentAnswer, AllAdjacentBelow}
use Rattle.std.proofs.lemmas.List.{get_or_past}
use Rattle.std.proofs.lemmas.Bool.{and_parts, and_from, le-leb, leb-true, leb-false, cases_lt, true≢false, false≢true}
use Rattle.lives.specs.Tables.{Fair, falls, fairly}

falls_to : (top : ℕ) (xs : List ℕ) → get_or xs 0 0 ≤ top → ((t : ℕ) → get_or xs (suc t) 0 ≤ get_or xs t 0) → falls top xs ≡ true
falls_to top [] h f = refl
falls_to top (x ∷ xs) h f = and_from (leb x top) (falls x xs) (le-leb x top h) (falls_to x xs (f 0) (λ t. f (suc t)))

falls-first : (top : ℕ) (xs : List ℕ) → falls top xs ≡ true → get_or xs 0 0 ≤ top
falls-first top [] e = omega arith
falls-first top (x ∷ xs) e = leb-true x top (and_parts (leb x top) (falls x xs) e).0

falls_from : (top : ℕ) (xs : List ℕ) → falls top xs ≡ true → (t : ℕ) → get_or xs (suc t) 0 ≤ get_or xs t 0
falls_from top [] e t = omega arith
falls_from top (x ∷ xs) e zero = falls-first x xs (and_parts (leb x top) (falls x xs) e).1
falls_from top (x ∷ xs) e (suc t) = falls_from x xs (and_parts (leb x top) (falls x xs) e).1 t

low : (xs : List ℕ) → get_or xs 0 0 ≤ 1000000 → ((t : ℕ) → get_or xs (suc t) 0 ≤ get_or xs t 0) → (t : ℕ) → get_or xs t 0 ≤ 1000000
low xs h f zero = h
low xs h f (suc t) = omega (arith, low xs h f t, f t)

-- no count is above the one before it, as a test of each and the next says
never_rises : (xs : List ℕ) → AllAdjacentBelow (λ x y. true ≡ leb y x) xs (length xs) → (t : ℕ) → get_or xs (t + 1) 0 ≤ get_or xs t 0
never_rises xs adjacent t =
    ⊎_elim (λ (h : t + 1 < length xs). leb-true (get_or xs (t + 1) 0) (get_or xs t 0) (sym (adjacent t 0 h)))
    (λ (h : length xs ≤ t + 1). omega (arith, get_or_past xs (t + 1) 0 h)) (cases_lt (t + 1) (length xs))

fair_from : (xs : List ℕ) → length xs ≤ 121 → get_or xs 0 0 ≤ 1000000 → ((t : ℕ) → get_or xs (t + 1) 0 ≤ get_or xs t 0) → Fair xs
fair_from xs short top falling = record { short = short; bounded = low xs top (λ t. rw add-one at (falling t)); falling = falling }

pub fairly_from : (xs : List ℕ) → Fair xs → fairly xs ≡ true
fairly_from xs f = and_from (leb (length xs) 121) (falls 1000000 xs) (le-leb (length xs) 121 f.short) (falls_to 1000000 xs (f.bounded 0) (λ t. rw add-one at (f.falling t)))

pub fair_from_fairly : (xs : List ℕ) → fairly xs ≡ true → Fair xs
fair_from_fairly xs e =
    let p = and_parts (leb (length xs) 121) (falls 1000000 xs) e in
    fair_from xs (leb-true (length xs) 121 p.0) (falls-first 1000000 xs p.1) (λ t. rw add-one (falls_from 1000000 xs p.1 t))

-- what the test promises of its answer
abbrev pub Judges : List ℕ → Bool → Type 0
Judges xs r = (r ≡ fairly xs) × (r ≡ true → Fair xs) × (r ≡ false → Fair xs → ⊥)

accepted : (xs : List ℕ) → Fair xs → Judges xs true
accepted xs f = (sym (fairly_from xs f), (λ _. f), (λ e. absurd (true≢false e)))

not_fairly : (xs : List ℕ) (b : Bool) → fairly xs ≡ b → (Fair xs → ⊥) → false ≡ b
not_fairly xs true e unfair = absurd (unfair (fair_from_fairly xs e))
not_fairly xs false e unfair = refl

refused : (xs : List ℕ) → (Fair xs → ⊥) → Judges xs false
refused xs unfair = (not_fairly xs (fairly xs) refl unfair, (λ h. absurd (false≢true h)), (λ _. unfair))

pub judged : (xs : List ℕ) (r : Bool) → length xs ≤ 121 → get_or xs 0 0 ≤ 1000000 → IsAllAdjacentAnswer (λ x y b. b ≡ leb y x) xs r → Judges xs r
judged xs true short top adjacent = accepted xs (fair_from xs short top (never_rises xs adjacent))
judged xs false short top (k, h, rises) = refused xs (λ f. omega (arith, f.falling k, leb-false (get_or xs (k + 1) 0) (get_or xs k 0) (sym (rises 0))))
