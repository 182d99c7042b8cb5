-- Sets of seats as numbers: unions, intersections, and what lies within what.
use Rattle.std.proofs.Common.{◌≡◌, ℕ, sym, ap, ◌∙◌, arith}
use lib.Bits.{bit_and, bit_or, and_comm, or_comm}
use Rattle.std.proofs.lemmas.Nat.{and_assoc, and_or_self}
use Rattle.std.proofs.lemmas.Nat.Bits.{bit_at_or, same_from_bits}

pub or_assoc : (a b c : ℕ) → bit_or (bit_or a b) c ≡ bit_or a (bit_or b c)
or_assoc a b c = same_from_bits _ _ (λ i. omega (arith, bit_at_or (bit_or a b) c i, bit_at_or a b i, bit_at_or a (bit_or b c) i, bit_at_or b c i))

-- each set lies within its union with another
pub absorb : (a b : ℕ) → bit_and a (bit_or a b) ≡ a
absorb a b = and_comm a (bit_or a b) ∙ ap (λ x. bit_and x a) (or_comm a b) ∙ and_or_self a b

-- s lies within n
abbrev pub Within : ℕ → ℕ → Type 0
Within s n = bit_and s n ≡ s

pub within_left : (a b n : ℕ) → Within (bit_or a b) n → Within a n
within_left a b n h =
    ap (λ x. bit_and x n) (sym (absorb a b)) ∙ and_assoc n a (bit_or a b) ∙ ap (bit_and a) h ∙ absorb a b

pub within_right : (a b n : ℕ) → Within (bit_or a b) n → Within b n
within_right a b n h = within_left b a n (ap (λ x. bit_and x n) (or_comm b a) ∙ h ∙ or_comm a b)

pub within_more : (s a b : ℕ) → Within s a → Within s (bit_or a b)
within_more s a b h = ap (λ x. bit_and x (bit_or a b)) (sym h) ∙ and_assoc (bit_or a b) s a ∙ ap (bit_and s) (absorb a b) ∙ h

-- of a set within n, a pattern has what its part within n has
pub part_same : (s p n : ℕ) → Within s n → bit_and s (bit_and p n) ≡ bit_and s p
part_same s p n h = ap (bit_and s) (and_comm p n) ∙ sym (and_assoc p s n) ∙ ap (λ x. bit_and x p) h
