-- The needs of `read_clauses`.
use Rattle.std.proofs.Common.{◌+◌, eqb, length, replicate, Ok, Err, arith, rules, refl, sym, ap, ◌∙◌, subst}
use Rattle.std.proofs.lemmas.Result.{err_from_is_err_and}
use Rattle.std.proofs.lemmas.Fn.{always_returns_same}
use Rattle.std.proofs.iter.Serving.{serving}
use Rattle.patterns.specs.Seats.{patterns}
use Rattle.std.specs.Slice.Iter.{split_rest, split_done}
use Rattle.std.specs.Iterator.Adapters.{enumerate_source}
use Rattle.expressions.specs.Verdict.{pending_room, answers_room}
use Rattle.benefits.specs.Clauses.{ClauseVerdict, clauses_of, share_of}
use Rattle.benefits.specs.Carried.{in_clause}
use Rattle.benefits.specs.Reads.{ClausesRead}
use Rattle.benefits.proofs.Parting.{left, all_left, next_left, part_within, part_long}
use Rattle.benefits.proofs.Saying.{Sofar, none_read, few_paid, one_more, all_read, no_more, paired_ok, paired_err, verdict_moved}
use Rattle.benefits.proofs.sums.read_clauses.Goals as goal

pub read-requires : goal.read-requires
read-requires c =
    let s = c.loop-i.i-iterator.iter in
    let k = c.in-Some.ensures.steps.0 in
    omega (arith, c.loop-i.invariant.4 k.0, part_within (split_rest s) c.in-Some.clause.now _ _ k.1)

pub overflow_add-at-in-loop-i : goal.overflow_add-at-in-loop-i
overflow_add-at-in-loop-i c =
    let s = c.loop-i.i-iterator.iter in
    let k = c.in-Some.ensures.steps.0 in
    omega (arith, c.loop-i.invariant.4 k.0, part_within (split_rest s) c.in-Some.clause.now _ _ k.1)

pub add-requires : goal.add-requires
add-requires c = few_paid c.loop-i.invariant.2 c.requires.few

pub loop-i-init : goal.loop-i-init
loop-i-init c =
    let text = c.args.text.now in
    let is = ap enumerate_source c.into_iter-i-iterator.ensures.into_iter_gives ∙ c.enumerate-i-items.ensures.source in
    let rest = ap split_rest is ∙ c.split.ensures.rest in
    let done = ap split_done is ∙ c.split.ensures.done in
    let none = none_read (clauses_of text) (pending_room c.args.lists.now) (answers_room c.args.lists.now) in
    let first = ap (λ i. i.count + 1) c.into_iter-i-iterator.ensures.into_iter_gives ∙ ap (λ n. n + 1) c.enumerate-i-items.ensures.count in (
      grind serving,
      tt,
      subst (λ l. Sofar (clauses_of text) l 0 (c.into_iter-i-iterator.result.count + 1) 0 (replicate patterns 0) (pending_room c.args.lists.now) (answers_room c.args.lists.now)) (sym (all_left text (split_rest c.into_iter-i-iterator.result.iter) (split_done c.into_iter-i-iterator.result.iter) rest done))
          (subst (λ n. Sofar (clauses_of text) (clauses_of text) 0 n 0 (replicate patterns 0) (pending_room c.args.lists.now) (answers_room c.args.lists.now)) (sym first) none),
      record { pending = refl; answers = refl },
      λ more. omega (arith, ap length rest),
    )

pub loop-i-preserved : goal.loop-i-preserved
loop-i-preserved c =
    let s = c.loop-i.i-iterator.iter in
    let clause = c.in-Some.clause.now in
    let k' = c.in-Some.ensures.steps in
    let k = k'.0 in
    let inv = c.loop-i.invariant in
    let p = pending_room c.args.lists.now in
    let a = answers_room c.args.lists.now in
    let w = k.2 (λ b. eqb b 59) (always_returns_same _ _ _ (λ a r q k. search rules)) in
    let parted = next_left (split_rest s) clause (split_rest c.next.new.self.iter) (split_done s) (split_done c.next.new.self.iter) k.0 k.1 w.1 in
    let is = paired_ok c.read.result _ c.with_number.result c.in_ok-with_number.field-0 c.with_number.ensures c.in_ok-with_number.was in
    let verdict : ClauseVerdict (share_of clause) (Ok c.in_ok-with_number.field-0) c.loop-i.at clause p a = verdict_moved c.loop-i.at clause inv.3.pending inv.3.answers is c.read.ensures.verdict in (
      search rules,
      tt,
      one_more inv.2 clause _ c.in_ok-with_number.field-0 (c.loop-i.at + (length clause + 1)) (c.next.new.self.count + 1) _ c.add.new.self.twentieths parted (omega arith) (omega (arith, k'.2)) verdict c.add.ensures.named c.add.ensures.long c.add.ensures.pays,
      record { pending = c.read.ensures.room.pending ∙ inv.3.pending; answers = c.read.ensures.room.answers ∙ inv.3.answers },
      λ more. omega (arith, inv.4 k.0, part_long (split_rest s) clause (split_rest c.next.new.self.iter) _ k.1 more),
    )

pub returns : goal.returns
returns c = all_read c.loop-i.invariant.2 (ap (left (split_rest c.loop-i.i-iterator.iter)) c.in-None.ensures.steps.0.0)

pub returns-in_err-with_number : goal.returns-in_err-with_number
returns-in_err-with_number c =
    let s = c.loop-i.i-iterator.iter in
    let clause = c.in-Some.clause.now in
    let k = c.in-Some.ensures.steps in
    let inv = c.loop-i.invariant in
    let p = pending_room c.args.lists.now in
    let a = answers_room c.args.lists.now in
    let w = k.0.2 (λ b. eqb b 59) (always_returns_same _ _ _ (λ a r q k. search rules)) in
    let parted = next_left (split_rest s) clause (split_rest c.next.new.self.iter) (split_done s) (split_done c.next.new.self.iter) k.0.0 k.0.1 w.1 in
    let out = err_from_is_err_and c.from_residual.result c.from_residual.ensures.1 in
    let was = paired_err c.read.result _ c.with_number.result _ c.with_number.ensures c.in_err-with_number.was in
    let verdict = verdict_moved c.loop-i.at clause inv.3.pending inv.3.answers was.1 c.read.ensures.verdict in
    let is = out.2 ∙ ap (λ n. in_clause n.number n.fault) was.2 ∙ ap (λ i. in_clause (i + 1) was.0) k.1 in
    subst (λ r. ClausesRead r (clauses_of c.args.text.now) p a) (sym (out.1 ∙ ap Err is)) (no_more inv.2 clause _ was.0 parted verdict)
