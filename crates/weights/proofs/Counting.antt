-- Where no seat is counted.
use Rattle.std.proofs.Common.{◌≡◌, ℕ, ◌<◌, ◌≤◌, true, eqb, List, length, refl, ap, ⊎_elim, arith}
use Rattle.std.proofs.lemmas.Bool.{cases_lt, eqb-true}
use Rattle.std.proofs.lemmas.List.{get_or_past}
use Rattle.std.proofs.lemmas.List.Recursion.{and_at}
use Rattle.weights.specs.declared.exposure.Exposure.{Exposure}
use Rattle.weights.specs.Exposures.{seat_at, none_counted}

pub none_count : (xs : List Exposure) → none_counted xs ≡ true → (i : ℕ) → (seat_at xs i).count ≡ 0
none_count xs e i =
    ⊎_elim (λ (h : i < length xs). eqb-true _ _ (and_at none_counted (λ x. eqb x.count 0) refl (λ _ _. refl) xs i _ h e))
    (λ (h : length xs ≤ i). ap (λ (x : Exposure). x.count) (get_or_past xs i _ h))
    (cases_lt i (length xs))
