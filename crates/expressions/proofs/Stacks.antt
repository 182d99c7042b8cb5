-- What a call on a stack leaves.
use Rattle.std.proofs.Common.{◌≡◌, ℕ, ◌<◌, ◌≤◌, true, cond, List, [], ◌∷◌, length, Ok, Err, Result, ap, arith, MatchResult}
use Rattle.stacks.specs.Items.{rest}
use Rattle.expressions.specs.declared.Word.{Word}
use Rattle.expressions.specs.declared.Word.TheVariants.{Or}
use lib.Bits.{bit_or}
use Rattle.expressions.specs.Layout.{is_top, top, join_masks}

pub pushed : {A E : Type 0} (r : Result A E) (P Q : Type 0) → MatchResult r (λ _. P) (λ _. Q) → (Q → ⊥) → P
pushed (Ok x) P Q h no-q = h
pushed (Err e) P Q h no-q = absurd (no-q h)

pub length_rest : {A : Type 0} (xs : List A) → length (rest xs) ≤ length xs
length_rest [] = omega arith
length_rest (x ∷ xs) = omega arith

pub length_rest_below : {A : Type 0} (xs : List A) (n : ℕ) → length xs ≤ n → 0 < n → length (rest xs) < n
length_rest_below [] n le some = some
length_rest_below (x ∷ xs) n le some = omega arith

pub join_masks_is : (ws : List Word) (ms : List ℕ) → is_top Or ws ≡ true → join_masks ws ms ≡ bit_or (top (rest ms)) (top ms) ∷ rest (rest ms)
join_masks_is ws ms t = ap (λ b. cond b (bit_or (top (rest ms)) (top ms) ∷ rest (rest ms)) ms) t
