-- The needs of `value_supposing`.
use Rattle.std.proofs.Common.{◌≡◌, ℕ, Option, sym, ap, ◌∙◌, rules}
use Rattle.seats.specs.declared.table.SeatTable.{SeatTable}
use Rattle.cases.specs.declared.inforce.InForce.{InForce}
use Rattle.cases.specs.Book.{Book, running, as_supposed}
use Rattle.cases.specs.Views.{shown_book}
use Rattle.cases.proofs.SameCase.{same_case}
use Rattle.annuities.specs.Values.{valued}
use Rattle.histories.proofs.supposed.value_supposing.Goals as goal

-- what is seen through the guard
through : (seen held : InForce) (o : Option ℕ) (t : SeatTable) (n : ℕ) → seen ≡ held → held.supposed ≡ o → held.table ≡ t → held.elapsed ≡ n → shown_book seen ≡ running (as_supposed o t.seats) n
through seen held o t n e p q r = ap shown_book e ∙ (λ i. running (as_supposed (p i) (q i).seats) (r i))

pub returns-in_err-valuation : goal.returns-in_err-valuation
returns-in_err-valuation c =
    let s = c.suppose-guard.ensures in
    let b = c.as_supposed-view.ensures.book ∙ through _ _ _ _ _ c.case.ensures s.supposed s.table s.elapsed in
    let v = c.value.ensures ∙ ap (λ (k : Book). valued k c.args.benefit.now c.args.rate c.args.route) b in
    record { same = search (rules, same_case); value = search rules }

pub returns : goal.returns
returns c =
    let s = c.suppose-guard.ensures in
    let b = c.as_supposed-view.ensures.book ∙ through _ _ _ _ _ c.case.ensures s.supposed s.table s.elapsed in
    record {
      same = search (rules, same_case);
      value = sym c.in_ok-valuation.was ∙ c.value.ensures ∙ ap (λ (k : Book). valued k c.args.benefit.now c.args.rate c.args.route) b;
    }
