-- The needs of `read`.
use Rattle.std.proofs.Common.{◌≡◌, ◌+◌, ◌-◌, Some, None, Option, Err, length, take, drop, sym, ap, ◌∙◌, subst, rules, arith}
use Rattle.std.proofs.lemmas.Result.{err_from_is_err_and}
use Rattle.std.specs.Option.{ok_or}
use Rattle.expressions.specs.Verdict.{Said, pending_room, answers_room}
use Rattle.benefits.specs.declared.faults.PartFault.{PartFault}
use Rattle.benefits.specs.Carried.{in_part}
use Rattle.benefits.specs.Clauses.{ClauseVerdict, share_of}
use Rattle.benefits.proofs.Saying.{paired_ok, paired_err}
use Rattle.benefits.proofs.Verdicts.{clause_ok, clause_err, clause_none}
use Rattle.benefits.proofs.clauses.Clause.read.Goals as goal

faulty : {T : Type 0} (o : Option T) (e x : PartFault) → ok_or o e ≡ Err x → x ≡ e
faulty None e x is = cc
faulty (Some y) e x is = grind arith

pub returns-clause-verdict : goal.returns-clause-verdict
returns-clause-verdict c =
    let text = c.args.text.now in
    let lists = c.args.lists.now in
    let end = c.run_end-end.result in
    let rest = take (length text - end) (drop end text) in
    let known : Some c.in_ok-share.share ≡ c.share.result = search rules in
    let is = paired_ok c.read.result (c.args.at + end) c.with_number.result c.in_ok-reading.reading c.with_number.ensures c.in_ok-reading.was in
    clause_ok text c.run_end-from.result end c.args.at (pending_room lists) (answers_room lists) c.run_end-from.ensures.end c.run_end-end.ensures.end c.in_ok-share.share c.in_ok-reading.reading (known ∙ c.share.ensures) lists.words lists.masks
    (subst (λ r. Said r rest) is c.read.ensures.said)

pub returns-in_err-reading-clause-verdict : goal.returns-in_err-reading-clause-verdict
returns-in_err-reading-clause-verdict c =
    let text = c.args.text.now in
    let lists = c.args.lists.now in
    let end = c.run_end-end.result in
    let rest = take (length text - end) (drop end text) in
    let known : Some c.in_ok-share.share ≡ c.share.result = search rules in
    let out = err_from_is_err_and c.from_residual-in_err-reading.result c.from_residual-in_err-reading.ensures.1 in
    let was = paired_err c.read.result (c.args.at + end) c.with_number.result _ c.with_number.ensures c.in_err-reading.was in
    let is : out.0 ≡ in_part (c.args.at + end) was.0 = out.2 ∙ ap (λ n. in_part n.number n.fault) was.2 in
    subst (λ r. ClauseVerdict (share_of text) r c.args.at text (pending_room lists) (answers_room lists)) (sym out.1)
    (clause_err text c.run_end-from.result end c.args.at (pending_room lists) (answers_room lists) c.run_end-from.ensures.end c.run_end-end.ensures.end c.in_ok-share.share was.0 out.0 is (known ∙ c.share.ensures) lists.words lists.masks
    (subst (λ r. Said r rest) was.1 c.read.ensures.said))

pub returns-in_err-share-clause-verdict : goal.returns-in_err-share-clause-verdict
returns-in_err-share-clause-verdict c =
    let lists = c.args.lists.now in
    let known : None ≡ c.share.result = search rules in
    let out = err_from_is_err_and c.from_residual.result c.from_residual.ensures.1 in
    subst (λ r. ClauseVerdict (share_of c.args.text.now) r c.args.at c.args.text.now (pending_room lists) (answers_room lists)) (sym out.1)
    (clause_none c.args.text.now c.run_end-from.result c.run_end-end.result c.args.at (pending_room lists) (answers_room lists) c.run_end-from.ensures.end c.run_end-end.ensures.end out.0 (out.2 ∙ faulty c.share.result _ _ (sym c.ok_or.ensures.value ∙ c.in_err-share.was) ∙ c.no_share.ensures) (known ∙ c.share.ensures))
