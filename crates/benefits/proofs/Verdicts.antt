-- The parts of a clause, and what its expression's fault is.
use Rattle.std.proofs.Common.{◌≡◌, ℕ, ◌+◌, ◌-◌, ◌≤◌, List, length, take, drop, Some, None, Ok, Err, Option, sym, refl, ap, ◌∙◌, subst, arith}
use Rattle.std.proofs.lemmas.Slice.{between_to_end}
use Rattle.tokens.specs.declared.classes.Class.TheVariants.{Digit}
use Rattle.tokens.specs.declared.faults.TokenFault.{TokenFault}
use Rattle.tokens.specs.Classes.{end_at, run_at}
use Rattle.expressions.specs.declared.Reading.{Reading}
use Rattle.expressions.specs.Verdict.{Said}
use Rattle.expressions.proofs.Answering.{answered}
use Rattle.benefits.specs.declared.faults.PartFault.{PartFault}
use Rattle.benefits.specs.Carried.{in_part}
use Rattle.benefits.specs.Clauses.{share_at, share_end, share_in, share_of, no_share, expression_of, ClauseVerdict}

-- the digits of the share
pub share_field : (text : List ℕ) (from end : ℕ) → from ≡ share_at text → end ≡ end_at text from Digit → take (end - from) (drop from text) ≡ run_at text (share_at text) Digit
share_field text from end f e =
    let n = end_at text from Digit - from in
    ap (λ k. take (k - from) (drop from text)) e ∙ ap (λ k. take k (drop from text)) (omega arith) ∙ ap (λ k. run_at text k Digit) f

pub share_end_is : (text : List ℕ) (from end : ℕ) → from ≡ share_at text → end ≡ end_at text from Digit → end ≡ share_end text
share_end_is text from end f e = e ∙ ap (λ k. end_at text k Digit) f

-- what follows the share
pub expression_rest : (text : List ℕ) (end : ℕ) → end ≡ share_end text → take (length text - end) (drop end text) ≡ expression_of text
expression_rest text end e = between_to_end text end (length text) (omega arith) ∙ ap (λ k. drop k text) e

module _ (text : List ℕ) (from end at p a : ℕ) (begins : from ≡ share_at text) (ends : end ≡ end_at text from Digit) where
  share_known : (o : Option ℕ) → o ≡ share_in (take (end - from) (drop from text)) → o ≡ share_of text
  share_known o e = e ∙ ap share_in (share_field text from end begins ends)

  rest_known : take (length text - end) (drop end text) ≡ expression_of text
  rest_known = expression_rest text end (share_end_is text from end begins ends)

  pub clause_ok : (n : ℕ) (x : Reading) → Some n ≡ share_in (take (end - from) (drop from text)) → 64 ≤ p → 64 ≤ a → Said (Ok x) (take (length text - end) (drop end text)) → ClauseVerdict (share_of text) (Ok (record { share = n; reading = x })) at text p a
  clause_ok n x e hp ha h = subst (λ o. ClauseVerdict o (Ok (record { share = n; reading = x })) at text p a) (share_known (Some n) e) (refl, answered (Ok x) (expression_of text) p a hp ha (subst (Said (Ok x)) rest_known h))

  pub clause_err : (n : ℕ) (e : TokenFault) (f : PartFault) → f ≡ in_part (at + end) e → Some n ≡ share_in (take (end - from) (drop from text)) → 64 ≤ p → 64 ≤ a → Said (Err e) (take (length text - end) (drop end text)) → ClauseVerdict (share_of text) (Err f) at text p a
  clause_err n e f is known hp ha h =
      let told = answered (Err e) (expression_of text) p a hp ha (subst (Said (Err e)) rest_known h) in
      let here = subst (λ o. ClauseVerdict o (Err (in_part (at + end) e)) at text p a) (share_known (Some n) known) (ap (λ k. at + k) (share_end_is text from end begins ends), told) in
      subst (λ g. ClauseVerdict (share_of text) (Err g) at text p a) (sym is) here

  pub clause_none : (f : PartFault) → f ≡ record { start = at + from; fault = no_share } → None ≡ share_in (take (end - from) (drop from text)) → ClauseVerdict (share_of text) (Err f) at text p a
  clause_none f is known = subst (λ o. ClauseVerdict o (Err f) at text p a) (share_known None known) (ap Err is ∙ (λ i. Err (record { start = at + begins i; fault = no_share })))
