-- The needs of `run_end`.
use Rattle.std.proofs.Common.{◌+◌, length, drop, ap, ◌∙◌, rules, arith}
use Rattle.std.specs.Slice.Iter.{iter_rest}
use Rattle.std.proofs.lemmas.Iterator.{YieldsList-from_slice}
use Rattle.std.proofs.lemmas.Iterator.Consumers.{count_from_yields_List}
use Rattle.std.proofs.lemmas.Iterator.Search.{YieldsList-from_take_while}
use Rattle.std.proofs.lemmas.List.Folds.{length-prefix_len}
use Rattle.std.proofs.lemmas.Slice.{between_to_end}
use Rattle.tokens.specs.Classes.{member}
use Rattle.tokens.proofs.classes.run_end.Goals as goal

pub returns-clause-end : goal.returns-clause-end
returns-clause-end c =
    let text = c.args.text.now in
    let from = c.args.from in
    let rest = drop from text in
    let p = member c.args.class in
    let source = ap iter_rest c.take_while.ensures.source ∙ c.iter.ensures.rest ∙ between_to_end text from (length text) (omega arith) in
    ap (λ n. from + n) (count_from_yields_List c.take_while.result _ c.count.ensures.ran (YieldsList-from_take_while _ p (YieldsList-from_slice rest source) c.take_while.ensures.closure c.take_while.ensures.done (λ x b q k. search rules)) ∙ length-prefix_len p rest)
