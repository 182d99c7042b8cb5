-- What is left to show of `Enrolling::withdraw`.
use Rattle.std.proofs.Common.{sym, ap, ◌∙◌, subst, inl, inr, ⊎_elim}
use Rattle.seats.specs.Seats.{first, Columns, Within}
use Rattle.cases.specs.Book.{opened, withdraw}
use Rattle.cases.proofs.Judging.{accepted, withdraw_accepted}
use Rattle.cases.proofs.Sounds.{withdrawn_columns, withdrawn-within}
use Rattle.cases.proofs.enrolling.Enrolling.withdraw.Goals as goal

pub invariant_of-self : goal.invariant_of-self
invariant_of-self c =
    let was = c.args.self.now in
    let xs = was.table.seats in
    let at = rw c.in_ok-seat.ensures.0 at c.clear.ensures in
    let e = sym at in
    record { columns = subst Columns e (withdrawn_columns xs c.args.seat was.columns); within = subst (Within first) e (withdrawn-within xs c.args.seat was.within) }

pub returns : goal.returns
returns c =
    let xs = c.args.self.now.table.seats in
    let at = rw c.in_ok-seat.ensures.0 at c.clear.ensures in
    let m = sym (rw c.in_ok-seat.ensures.0 at c.mark.ensures) in
    let ok = withdraw_accepted xs c.args.seat c.in_ok-seat.ensures.1 (⊎_elim (λ e. inl (m ∙ e)) (λ e. inr (m ∙ e)) c.in-Living.is) in
    record { answer = sym ok; after = ap opened at ∙ sym (accepted (withdraw c.args.seat) (opened xs) ok) }
