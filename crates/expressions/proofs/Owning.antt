-- What was read depends only on the seats that it names.
use Rattle.std.proofs.Common.{◌≡◌, ℕ, zero, suc, ◌<◌, Bool, true, false, not as nay, ◌&&◌, ◌||◌, eqb, ltb, leb, List, [], ◌∷◌, length, Some, None, Ok, Err, MatchBool, Option, Result, sym, refl, ap, ◌∙◌, subst, arith, lit<}
use lib.Bits.{bit_and, bit_or, or_lt, and_self, and_le_l}
use lib.Count.{ones}
use Rattle.std.specs.List.{AllByRecursion}
use Rattle.patterns.specs.Seats.{seats, patterns}
use Rattle.tokens.specs.declared.Code.{Code}
use Rattle.tokens.specs.declared.Token.{Token}
use Rattle.tokens.specs.declared.faults.TokenFault.{TokenFault}
use Rattle.tokens.specs.Letters.{seats_of}
use Rattle.tokens.specs.Look.{look, after}
use Rattle.tokens.proofs.Naming.{look_small}
use Rattle.expressions.specs.declared.Group.{Group}
use Rattle.expressions.specs.declared.Group.TheVariants as kind
use Rattle.expressions.specs.declared.Reading.{Reading}
use Rattle.expressions.specs.declared.reads.ReadFault.{ReadFault}
use Rattle.expressions.specs.declared.reads.ReadFault.TheVariants as fault
use Rattle.expressions.specs.Answers.{bit_of, yes}
use Rattle.expressions.specs.Cuts.{cut_all, cut_from, full, one_more}
use Rattle.expressions.specs.Grammar.{Tree, seat, group, not, and, or}
use Rattle.expressions.specs.Meaning.{group_holds, holds, seats_in}
use Rattle.expressions.specs.Verdict.{Read, Answered, OfCut, codes_of}
use Rattle.expressions.proofs.Bits.{packed_says}
use Rattle.expressions.proofs.Names.{named_from, named_is}
use Rattle.expressions.proofs.Sets.{Within, within_left, within_right, part_same}

group_own : (g : Group) (s p n : ℕ) → Within s n → group_holds g s p ≡ group_holds g s (bit_and p n)
group_own kind.Joint s p n h = ap (λ x. eqb (ones x) (ones s)) (sym (part_same s p n h))
group_own kind.Last s p n h = ap (λ x. ltb 0 (ones x)) (sym (part_same s p n h))
group_own (kind.Exactly d) s p n h = ap (λ x. eqb (ones x) d) (sym (part_same s p n h))
group_own (kind.AtLeast d) s p n h = ap (λ x. leb d (ones x)) (sym (part_same s p n h))

-- an expression holds in a pattern as in the pattern's part within n, where n has its seats
pub holds_own : (t : Tree) (p n : ℕ) → Within (seats_in t) n → holds t p ≡ holds t (bit_and p n)
holds_own (seat s) p n h = group_own kind.Last s p n h
holds_own (group g s) p n h = group_own g s p n h
holds_own (not a) p n h = ap nay (holds_own a p n h)
holds_own (and a b) p n h = λ i. holds_own a p n (within_left (seats_in a) (seats_in b) n h) i && holds_own b p n (within_right (seats_in a) (seats_in b) n h) i
holds_own (or a b) p n h = λ i. holds_own a p n (within_left (seats_in a) (seats_in b) n h) i || holds_own b p n (within_right (seats_in a) (seats_in b) n h) i

abbrev Small : List Token → Type 0
Small ts = AllByRecursion (λ t. seats_of t.code < patterns) ts

abbrev SmallCut : Result (List Token) TokenFault → Type 0
SmallCut (Ok ts) = Small ts
SmallCut (Err e) = Unit {0}

full_small : (r : Result (Option Token) TokenFault) → SmallCut (full r)
full_small (Ok None) = tt
full_small (Ok (Some t)) = tt
full_small (Err e) = tt

more_small : (text : List ℕ) (p : ℕ) (r : Result (Option Token) TokenFault) (c : Result (List Token) TokenFault) → look text p ≡ r → SmallCut c → SmallCut (one_more r c)
more_small text p (Ok None) c e h = tt
more_small text p (Ok (Some t)) (Ok us) e h = (look_small text p t e, h)
more_small text p (Ok (Some t)) (Err f) e h = tt
more_small text p (Err f) c e h = tt

cut_small : (n : ℕ) (text : List ℕ) (p : ℕ) → SmallCut (cut_from n text p)
unfolding cut_from
cut_small zero text p = full_small (look text p)
cut_small (suc n) text p = more_small text p (look text p) (cut_from n text (after text p)) refl (cut_small n text (after text p))

named_small : (n : ℕ) (ts : List Token) → n < patterns → Small ts → named_from n (codes_of ts) < patterns
named_small n [] h s = h
named_small n (t ∷ ts) h s = named_small (bit_or n (seats_of t.code)) ts (or_lt seats n (seats_of t.code) h s.0) s.1

-- the named seats are seats, and a pattern answers as its part within them
pub record Own (x : Reading) : Type 0 where
  pub few : x.named < patterns
  pub own : (p : ℕ) → p < patterns → yes x p ≡ yes x (bit_and p x.named)

abbrev pub Owned : Result Reading ReadFault → Type 0
Owned (Ok x) = Own x
Owned (Err e) = Unit {0}

pub yes-holds : (x : Reading) (cs : List Code) (h : Read x cs) (p : ℕ) → p < patterns → yes x p ≡ holds h.tree p
yes-holds x cs h p lt = ap (λ m. bit_of m p) h.answers ∙ packed_says (holds h.tree) patterns p lt

read_own : (x : Reading) (ts : List Token) → Small ts → Read x (codes_of ts) → Own x
read_own x ts small h =
    let named = x.named in
    record {
      few = subst (λ n. n < patterns) (named_is h.says ∙ sym h.names) (named_small 0 ts (lit< tt) small);
      own = λ p lt.
          yes-holds x (codes_of ts) h p lt
          ∙ holds_own h.tree p named (ap (bit_and (seats_in h.tree)) h.names ∙ and_self (seats_in h.tree))
          ∙ sym (yes-holds x (codes_of ts) h (bit_and p named) (omega (arith, and_le_l p named)));
    }

of_cut : (x : Reading) (c : Result (List Token) TokenFault) (end : ℕ) → SmallCut c → OfCut c (Ok x) end → Own x
of_cut x (Ok ts) end s h = read_own x ts s h
of_cut x (Err e) end s h = let z : ◌≡◌ {A = ℕ} 0 1 = cc in absurd (omega arith)

-- so it is with whatever is read
pub answered_own : (r : Result Reading ReadFault) (text : List ℕ) (p a : ℕ) → Answered r text p a → Owned r
answered_own (Err e) text p a h = tt
answered_own (Ok x) text p a h = of_test (leb 64 p && leb 64 a) h
  where
    of_test : (b : Bool) → MatchBool b (OfCut (cut_all text) (Ok x) (length text)) (Ok x ≡ Err fault.Short) → Own x
    of_test true k = of_cut x (cut_all text) (length text) (cut_small 64 text 0) k
    of_test false k = let z : ◌≡◌ {A = ℕ} 0 1 = cc in absurd (omega arith)
