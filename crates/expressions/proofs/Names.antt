-- The letters of the tokens are those of the tree.
use Rattle.std.proofs.Common.{◌≡◌, ℕ, List, fold, sym, refl, ap, ◌∙◌}
use lib.Bits.{bit_or, or_zero_l, or_zero_r}
use Rattle.tokens.specs.declared.Code.{Code}
use Rattle.tokens.specs.Letters.{seats_of}
use Rattle.expressions.specs.Grammar.{Tree, Part, Reads, factor, ands, term, ors, expression, Says}
use Rattle.expressions.specs.Grammar.{a_letter, a_joint, a_last, an_exactly, an_atleast, a_not, a_paren, no_and, an_and, a_term, no_or, an_or, an_expression}
use Rattle.expressions.specs.Meaning.{seats_in}
use Rattle.expressions.proofs.Sets.{or_assoc}

-- the seats that tokens name, after those of n
abbrev pub named_from : ℕ → List Code → ℕ
named_from n cs = fold (λ m c. bit_or m (seats_of c)) n cs

abbrev pub named_in : List Code → ℕ
named_in cs = named_from 0 cs

-- the seats that stand to the left within a part
abbrev before : Part → ℕ
before factor = 0
before (ands a) = seats_in a
before term = 0
before (ors a) = seats_in a
before expression = 0

none : (n : ℕ) → bit_or n 0 ≡ n
none n = or_zero_r n

names : {p : Part} {ts us : List Code} {t : Tree} (n : ℕ) → Reads p ts us t → named_from (bit_or n (before p)) ts ≡ named_from (bit_or n (seats_in t)) us
names n (a_letter {s = s} {us = us} one) = ap (λ m. named_from (bit_or m s) us) (none n)
names n (a_joint {s = s} {us = us}) = simp or_zero_r
names n (a_last {s = s} {us = us}) = simp or_zero_r
names n (an_exactly {s = s} {us = us}) = simp or_zero_r
names n (an_atleast {s = s} {us = us}) = simp or_zero_r
names n (a_not {ts = ts} r) = ap (λ m. named_from m ts) (none (bit_or n 0)) ∙ names n r
names n (a_paren {ts = ts} {us = us} {a = a} r) = ap (λ m. named_from m ts) (none (bit_or n 0)) ∙ names n r ∙ ap (λ m. named_from m us) (none (bit_or n (seats_in a)))
names n no_and = refl
names n (an_and {a = a} {b = b} {ts = ts} {us = us} rf ra) =
    names (bit_or n (seats_in a)) rf ∙ ap (λ m. named_from m us) (or_assoc n (seats_in a) (seats_in b)) ∙ names n ra
names n (a_term rf ra) = names n rf ∙ names n ra
names n no_or = refl
names n (an_or {a = a} {b = b} {ts = ts} {us = us} rt ro) =
    names (bit_or n (seats_in a)) rt ∙ ap (λ m. named_from m us) (or_assoc n (seats_in a) (seats_in b)) ∙ names n ro
names n (an_expression rt ro) = names n rt ∙ names n ro

pub named_is : {cs : List Code} {t : Tree} → Says cs t → named_in cs ≡ seats_in t
named_is {cs} {t} h = ap (λ m. named_from m cs) (sym (none 0)) ∙ names 0 h ∙ or_zero_l (seats_in t)
