-- The needs of `cut`.
use Rattle.std.proofs.Common.{◌≡◌, ℕ, suc, ◌+◌, ◌-◌, take, set, Ok, Err, sym, ap, ◌∙◌, append-nil, arith, length-set}
use Rattle.std.proofs.lemmas.Result.{err_from_is_err_and}
use Rattle.tokens.specs.Look.{look, after, at}
use Rattle.expressions.specs.Cuts.{cut_from, prefixed, full}
use Rattle.expressions.proofs.Cutting.{prefixed-none, cut_some, cut_none, cut_err, cut_end}
use Rattle.expressions.proofs.cut.cut.Goals as goal

left : (i : ℕ) → Prim.Native.Nat.◌<◌ i 64 → 64 - i ≡ suc (63 - i)
left i h = omega arith

pub loop-i-init : goal.loop-i-init
loop-i-init c = (c.new-lexer.ensures.text, c.requires, prefixed-none _ ∙ ap (cut_from 64 c.args.text.now) c.new-lexer.ensures.place)

pub returns-in_err-token : goal.returns-in_err-token
returns-in_err-token c =
    let text = c.args.text.now in
    let lexer = c.loop-i.lexer in
    let inv = c.loop-i.invariant in
    let p = err_from_is_err_and c.from_residual.result c.from_residual.ensures.1 in
    let sees = ap (λ l. look l (at lexer)) (sym inv.0) ∙ sym c.peek.ensures ∙ c.in_err-token.was in
    rw p.1 (sym inv.2 ∙ cut_err text (at lexer) _ (64 - c.loop-i.i) (63 - c.loop-i.i) _ sees (left _ c.loop-i-test.true) ∙ ap Err (sym p.2))

pub returns-in_default : goal.returns-in_default
returns-in_default c =
    let text = c.args.text.now in
    let lexer = c.loop-i.lexer in
    let inv = c.loop-i.invariant in
    let sees = ap (λ l. look l (at lexer)) (sym inv.0) ∙ sym c.peek.ensures ∙ c.in_ok-token.was ∙ ap Ok c.in_default.is in
    (omega arith, sym inv.2 ∙ cut_none text (at lexer) _ (64 - c.loop-i.i) (63 - c.loop-i.i) sees (left _ c.loop-i-test.true))

pub loop-i-preserved : goal.loop-i-preserved
loop-i-preserved c =
    let text = c.args.text.now in
    let lexer = c.loop-i.lexer in
    let inv = c.loop-i.invariant in
    let i = c.loop-i.i in
    let sees = ap (λ l. look l (at lexer)) (sym inv.0) ∙ sym c.peek.ensures ∙ c.in_ok-token.was ∙ ap Ok c.in-Some.is in
    let next : at c.skip.new.self ≡ after text (at lexer) = c.skip.ensures.place ∙ ap (λ l. after l (at lexer)) inv.0 in
    let fewer : 64 - (i + 1) ≡ 63 - i = omega arith in (
      c.skip.ensures.text ∙ inv.0,
      length-set _ _ _ ∙ inv.1,
      (λ j. prefixed (take (i + 1) (set c.loop-i.tokens i c.in-Some.token)) (cut_from (fewer j) text (next j)))
          ∙ cut_some text (at lexer) c.loop-i.tokens i (64 - i) (63 - i) c.in-Some.token sees (left i c.loop-i-test.true) (omega (arith, inv.1, c.loop-i-test.true))
          ∙ inv.2,
    )

pub returns-in-Ok-None : goal.returns-in-Ok-None
returns-in-Ok-None c =
    let inv = c.loop-i.invariant in
    let sees = ap (λ l. look l (at c.loop-i.lexer)) (sym inv.0) ∙ sym c.peek-2.ensures ∙ c.in-Ok-None.is ∙ ap Ok c.in-Ok-None.field-0-is in
    let all : c.loop-i.i ≡ 64 = omega arith in
    (omega arith, sym inv.2 ∙ cut_end c.args.text.now (at c.loop-i.lexer) _ (64 - c.loop-i.i) (omega arith) ∙ ap (λ r. prefixed (take c.loop-i.i c.loop-i.tokens) (full r)) sees ∙ ap Ok (append-nil _ ∙ ap (λ n. take n c.loop-i.tokens) all))

pub returns-in-Ok-Some : goal.returns-in-Ok-Some
returns-in-Ok-Some c =
    let inv = c.loop-i.invariant in
    let sees = ap (λ l. look l (at c.loop-i.lexer)) (sym inv.0) ∙ sym c.peek-2.ensures ∙ c.in-Ok-Some.is ∙ ap Ok c.in-Ok-Some.field-0-is in
    sym inv.2 ∙ cut_end c.args.text.now (at c.loop-i.lexer) _ (64 - c.loop-i.i) (omega arith) ∙ ap (λ r. prefixed (take c.loop-i.i c.loop-i.tokens) (full r)) sees

pub returns-in-Err : goal.returns-in-Err
returns-in-Err c =
    let inv = c.loop-i.invariant in
    let sees = ap (λ l. look l (at c.loop-i.lexer)) (sym inv.0) ∙ sym c.peek-2.ensures ∙ c.in-Err.is in
    sym inv.2 ∙ cut_end c.args.text.now (at c.loop-i.lexer) _ (64 - c.loop-i.i) (omega arith) ∙ ap (λ r. prefixed (take c.loop-i.i c.loop-i.tokens) (full r)) sees ∙ ap (λ k. Err (record { refusal = k; place = c.in-Err.field-0.place })) (sym c.lower_code.ensures)
