-- The needs of `answers`.
use Rattle.cases.specs.Views.{shown_book}
use Rattle.cases.proofs.Supposed.{shown_columns}
use Rattle.histories.specs.declared.calls.Account.{Account}
use Rattle.histories.specs.Law.{Answered}
use Rattle.histories.proofs.Laws.{routes, factors}
use Rattle.histories.proofs.Survival.{survival}
use Rattle.histories.proofs.account.answers.Goals as goal

pub returns : goal.returns
returns c =
    let b = shown_book c.args.case.now in
    let x = c.args.benefit.now in
    let t = c.args.year in
    let i = c.args.rate in
    let e = c.as_supposed-view.ensures.book in
    let a : Account = record { patterns = c.work.result; subsets = c.work-2.result; counts = c.work-3.result } in
    let r : Answered b x t i a = record { by_patterns = (rw e at c.work.ensures.worked); by_subsets = (rw e at c.work-2.ensures.worked); by_counts = (rw e at c.work-3.ensures.worked) } in
    record {
      answered = r;
      law = record {
        routes = λ h q. routes b x t h q i a r;
        survival = λ h n p q. survival b x t (shown_columns c.args.case.now) n p;
        factors = λ h q low. factors b x t h q i low a r (rw e at c.work.ensures.cut) (rw e at c.work-2.ensures.cut) (rw e at c.work-3.ensures.cut);
      };
    }
