-- The needs of `is_even`.
use Rattle.std.proofs.lemmas.Nat.{ones-le}
use Rattle.std.proofs.Common.{◌≡◌, ℕ, ◌<◌, not, T, get_or, sym, ap, ◌∙◌, subst, arith, below_more}
use lib.Count.{ones}
use Rattle.std.proofs.lemmas.Bool.{false≢true}
use Rattle.patterns.specs.Seats.{seats, patterns}
use Rattle.patterns.specs.Patterns.{flags, size, within}
use Rattle.patterns.proofs.Masks.{ones_size}
use Rattle.weights.specs.Numbers.{share_with}
use Rattle.weights.proofs.Evens.{only_even, even_only, other_uneven, with_even}
use Rattle.routes.proofs.ByNumber.{inside-yes, inside_no}
use Rattle.routes.proofs.by_number.is_even.Goals as goal
use Rattle.routes.proofs.by_number.is_even.Goals.{then-p-named+else-share-by_number, else-p-named}

pub overflow_cast-p : goal.overflow_cast-p
overflow_cast-p c = record { fits = omega (arith, ones-le seats c.loop-p.p c.loop-p-test.true) }

pub bounds-by_number-p : goal.bounds-by_number-p
bounds-by_number-p c = omega (arith, ones-le seats c.loop-p.p c.loop-p-test.true)

pub returns-then-share-by_number : goal.returns-then-share-by_number
returns-then-share-by_number c =
    let f = λ (q : ℕ). get_or c.args.shares.now.twentieths q 0 in
    let N = c.args.named in
    let p = c.loop-p.p in
    let h = c.loop-p-test.true in
    let here = c.shares_by_number-by_number.ensures (ones p) ∙ ap (share_with seats f N) (ones_size seats p h) in
    let clash = other_uneven seats f N p h (inside-yes seats N p h c.if-p-named.true) (λ e. c.if-share-by_number.true (e ∙ sym here)) in
    record {
      answer = sym (ap not clash);
      yes = λ e. absurd (false≢true e);
      no = λ e only. absurd (false≢true (sym (only_even seats f N only) ∙ clash));
    }

pub loop-p-preserved : goal.loop-p-preserved
loop-p-preserved c =
    let f = λ (q : ℕ). get_or c.args.shares.now.twentieths q 0 in
    let N = c.args.named in
    let p = c.loop-p.p in
    let h = c.loop-p-test.true in
    let here : T (within (flags seats p) (flags seats N)) → f p ≡ share_with seats f N (size (flags seats p)) =
    elim c.if-p-named.branch [
      | then-p-named+else-share-by_number w ↦ λ t. w.if-share-by_number.false ∙ c.shares_by_number-by_number.ensures (ones p) ∙ ap (share_with seats f N) (ones_size seats p h)
      | else-p-named w ↦ λ t. absurd (subst T (inside_no seats N p h w.if-p-named.false) t)
    ] in
    below_more _ _ c.loop-p.invariant here

pub returns : goal.returns
returns c =
    let f = λ (q : ℕ). get_or c.args.shares.now.twentieths q 0 in
    let N = c.args.named in
    let e : c.loop-p.p ≡ patterns = omega arith in
    let even = with_even seats f N (share_with seats f N) (λ p h. c.loop-p.invariant p (subst (λ (m : ℕ). p < m) (sym e) h)) in
    record {
      answer = sym (ap not even);
      yes = λ d. even_only seats f N even;
      no = λ d. absurd (false≢true (sym d));
    }
