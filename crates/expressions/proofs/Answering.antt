-- What a reading says in lists that are long enough is what reading answers.
use Rattle.std.proofs.Common.{◌≡◌, ℕ, ◌≤◌, Bool, leb, List, length, Ok, Err, MatchBool, Result, sym, ap, subst}
use Rattle.std.proofs.lemmas.Bool.{le-leb, and_from}
use Rattle.tokens.specs.declared.faults.TokenFault.{TokenFault}
use Rattle.tokens.specs.declared.Token.{Token}
use Rattle.expressions.specs.declared.Reading.{Reading}
use Rattle.expressions.specs.declared.reads.ReadFault.{ReadFault}
use Rattle.expressions.specs.declared.reads.ReadFault.TheVariants as fault
use Rattle.expressions.specs.Cuts.{cut_all}
use Rattle.expressions.specs.Verdict.{Answered, OfCut, Said, SaidOf, raised}

-- the same answer, with a token's fault as the reader's
abbrev pub raised_in : Result Reading TokenFault → Result Reading ReadFault
raised_in (Ok x) = Ok x
raised_in (Err e) = Err (raised e)

of_cut : (c : Result (List Token) TokenFault) (r : Result Reading TokenFault) (end : ℕ) → SaidOf c r end → OfCut c (raised_in r) end
of_cut (Ok ts) (Ok x) end h = h
of_cut (Ok ts) (Err e) end h = h
of_cut (Err e) r end h = ap raised_in h

pub answered : (r : Result Reading TokenFault) (text : List ℕ) (p a : ℕ) → 64 ≤ p → 64 ≤ a → Said r text → Answered (raised_in r) text p a
answered r text p a hp ha h =
    let W : Bool → Type 0 = λ b. MatchBool b (OfCut (cut_all text) (raised_in r) (length text)) (raised_in r ≡ Err fault.Short) in
    subst W (sym (and_from (leb 64 p) (leb 64 a) (le-leb 64 p hp) (le-leb 64 a ha))) (of_cut (cut_all text) r (length text) h)
