-- The needs of `read_tokens`.
use Rattle.std.proofs.Common.{map, sym, refl, ap, ◌∙◌, subst, arith}
use Rattle.std.proofs.lemmas.List.{get_or_default}
use Rattle.std.proofs.lemmas.Result.{err_from_is_err_and}
use Rattle.expressions.specs.Verdict.{Verdict}
use Rattle.expressions.proofs.Along.{along_none, along_more, fault_at, at_the_end}
use Rattle.expressions.proofs.lists.Lists.read_tokens.Goals as goal

pub loop-token-init : goal.loop-token-init
loop-token-init c = (along_none c.args.tokens.now _ (ap (map (λ p. p.word)) c.new.ensures.empty) c.new-2.ensures.empty refl refl, omega (arith, c.new.ensures.room), omega (arith, c.new-2.ensures.room))

pub returns-in_err-step-clause-verdict : goal.returns-in_err-step-clause-verdict
returns-in_err-step-clause-verdict c =
    let p = err_from_is_err_and c.from_residual.result c.from_residual.ensures.1 in
    let h = c.loop-token.invariant.0 in
    let w = c.in_err-step.ensures.took h.state h.fits in
    subst (λ x. Verdict x c.args.tokens.now c.args.end) (sym p.1) (fault_at c.args.tokens.now c.loop-token.token-index c.args.end c.loop-token.reader _ p.0 c.loop-token-test.true (get_or_default c.args.tokens.now c.loop-token.token-index _ _ c.loop-token-test.true) h (p.2 ∙ w.0) w.1)

pub loop-token-preserved : goal.loop-token-preserved
loop-token-preserved c =
    let h = c.loop-token.invariant.0 in
    let w = c.in_ok-step.ensures in
    (along_more c.args.tokens.now c.loop-token.token-index c.loop-token.reader c.step.new.self _ c.loop-token-test.true (get_or_default c.args.tokens.now c.loop-token.token-index _ _ c.loop-token-test.true) h (w.took h.state h.fits) w.named, omega (arith, w.pending), omega (arith, w.answers))

pub returns-clause-verdict : goal.returns-clause-verdict
returns-clause-verdict c =
    let h = c.loop-token.invariant.0 in
    at_the_end c.args.tokens.now c.loop-token.token-index c.args.end c.loop-token.reader c.finish.result c.loop-token-test.false c.loop-token.auto.token-index-end h (c.finish.ensures h.state h.fits)
