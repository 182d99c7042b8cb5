-- One token more of the cut.
use Rattle.std.proofs.Common.{◌≡◌, ℕ, suc, ◌+◌, ◌<◌, List, [], ◌∷◌, ◌++◌, length, take, set, Some, None, Ok, Err, Result, sym, refl, ap, ◌∙◌, append_assoc, append-nil}
use Rattle.std.proofs.lemmas.List.{take_more_set}
use Rattle.tokens.specs.declared.faults.TokenFault.{TokenFault}
use Rattle.tokens.specs.declared.Token.{Token}
use Rattle.tokens.specs.Look.{look, after}
use Rattle.expressions.specs.Cuts.{cut_from, prefixed, one_more, full}

prefixed_twice : (ts us : List Token) (r : Result (List Token) TokenFault) → prefixed ts (prefixed us r) ≡ prefixed (ts ++ us) r
prefixed_twice ts us (Ok vs) = ap Ok (sym (append_assoc ts us vs))
prefixed_twice ts us (Err e) = refl

pub prefixed-none : (r : Result (List Token) TokenFault) → prefixed [] r ≡ r
prefixed-none (Ok us) = refl
prefixed-none (Err e) = refl

module _ (text : List ℕ) (p : ℕ) where
  cut_one : (n m : ℕ) → n ≡ suc m → cut_from n text p ≡ one_more (look text p) (cut_from m text (after text p))
  unfolding cut_from
  cut_one n m e = ap (λ k. cut_from k text p) e

  cut_last : (n : ℕ) → n ≡ 0 → cut_from n text p ≡ full (look text p)
  unfolding cut_from
  cut_last n e = ap (λ k. cut_from k text p) e

  pub cut_some : (ts : List Token) (i n m : ℕ) (t : Token) → look text p ≡ Ok (Some t) → n ≡ suc m → i < length ts → prefixed (take (i + 1) (set ts i t)) (cut_from m text (after text p)) ≡ prefixed (take i ts) (cut_from n text p)
  cut_some ts i n m t sees e lt =
      ap (λ l. prefixed l (cut_from m text (after text p))) (take_more_set ts i t lt)
      ∙ sym (prefixed_twice (take i ts) (t ∷ []) (cut_from m text (after text p)))
      ∙ ap (prefixed (take i ts)) (ap (λ r. one_more r (cut_from m text (after text p))) (sym sees) ∙ sym (cut_one n m e))

  pub cut_none : (ts : List Token) (n m : ℕ) → look text p ≡ Ok None → n ≡ suc m → prefixed ts (cut_from n text p) ≡ Ok ts
  cut_none ts n m sees e = ap (prefixed ts) (cut_one n m e ∙ ap (λ r. one_more r (cut_from m text (after text p))) sees) ∙ ap Ok (append-nil ts)

  pub cut_err : (ts : List Token) (n m : ℕ) (f : TokenFault) → look text p ≡ Err f → n ≡ suc m → prefixed ts (cut_from n text p) ≡ Err f
  cut_err ts n m f sees e = ap (prefixed ts) (cut_one n m e ∙ ap (λ r. one_more r (cut_from m text (after text p))) sees)

  pub cut_end : (ts : List Token) (n : ℕ) → n ≡ 0 → prefixed ts (cut_from n text p) ≡ prefixed ts (full (look text p))
  cut_end ts n e = ap (prefixed ts) (cut_last n e)
