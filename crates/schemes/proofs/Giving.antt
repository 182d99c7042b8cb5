-- Fields read left to right give their numbers, or the first that is refused.
use Rattle.std.proofs.Common.{◌≡◌, ℕ, ◌+◌, List, [], ◌∷◌, ◌++◌, length, get_or, Ok, Err, Result, sym, refl, ap, ◌∙◌, subst, arith, MatchResult}
use Rattle.std.proofs.lemmas.List.{append-nil, append_assoc, length-append}
use Rattle.lines.specs.declared.kind.Kind.{Kind}
use Rattle.writing.specs.Printed.{spaced}
use Rattle.schemes.specs.declared.fault.Fault.{Fault}
use Rattle.schemes.specs.Syntax.{shape, read, reads, by_read, Gives, no_more, and_more, Refuses, ReadsStand}

spaced-push : (fs : List (List ℕ)) (f : List ℕ) → length (spaced (fs ++ (f ∷ []))) ≡ length (spaced fs) + (length f + 1)
spaced-push [] f = omega (arith, ap length (append-nil f))
spaced-push (g ∷ fs) f = omega (arith, spaced-push fs f, length-append g (spaced fs), length-append g (spaced (fs ++ (f ∷ []))))

by_case : (k : Kind) (before : List (List ℕ)) (ns : List ℕ) (f : List ℕ) (fs whole : List (List ℕ)) (p : ℕ) → Gives k before ns → whole ≡ before ++ (f ∷ fs) → p ≡ 2 + length (spaced before)
    → (next : ℕ → Result (List ℕ) Fault) → ((n : ℕ) → read (shape k (length ns) (get_or ns 1 0)) p f ≡ Ok n → MatchResult (next n) (λ ms. Gives k whole ms) (λ e. Refuses k whole e))
    → (x : Result ℕ Fault) → read (shape k (length ns) (get_or ns 1 0)) p f ≡ x → MatchResult (by_read x next) (λ ms. Gives k whole ms) (λ e. Refuses k whole e)
by_case k before ns f fs whole p r w q next rec (Ok n) e = rec n e
by_case k before ns f fs whole p r w q next rec (Err why) e =
    record { before = before; field = f; rest = fs; ns = ns; parts = w; given = r; refused = ap (λ z. read (shape k (length ns) (get_or ns 1 0)) z f) (sym q) ∙ e }

go : (k : Kind) (before : List (List ℕ)) (ns : List ℕ) (fs whole : List (List ℕ)) (p : ℕ) → Gives k before ns → whole ≡ before ++ fs → p ≡ 2 + length (spaced before) → MatchResult (reads k ns p fs) (λ ms. Gives k whole ms) (λ e. Refuses k whole e)
go k before ns [] whole p r w q = subst (λ x. Gives k x ns) (sym (w ∙ append-nil before)) r
go k before ns (f ∷ fs) whole p r w q =
    by_case k before ns f fs whole p r w q (λ n. reads k (ns ++ (n ∷ [])) (p + length f + 1) fs)
    (λ n e. go k (before ++ (f ∷ [])) (ns ++ (n ∷ [])) fs whole (p + length f + 1) (and_more before ns p f n r e) (w ∙ sym (append_assoc before (f ∷ []) fs)) (omega (arith, spaced-push before f)))
    (read (shape k (length ns) (get_or ns 1 0)) p f) refl

pub reads_stand : ReadsStand
reads_stand k fs = go k [] [] fs fs 2 no_more refl refl
