-- What is left to show of `extend`.
use Rattle.std.proofs.Common.{◌<◌, ◌≤◌, ◌++◌, true, false, get_or, take, drop, length, ◌-◌, Ok, Err, sym, refl, ap, ◌∙◌, arith}
use Rattle.std.proofs.lemmas.List.{take_rest, length-set}
use Rattle.std.proofs.lemmas.Result.{err_from_is_err_and}
use Rattle.schemes.specs.Counts.{lists}
use Rattle.schemes.specs.Most.{year_count}
use Rattle.lives.specs.Tables.{fairly}
use Rattle.schemes.specs.Faults.{of_refusal}
use Rattle.schemes.proofs.Fielding.{appended_is}
use Rattle.schemes.proofs.Counted.{table_named, some}
use Rattle.schemes.proofs.Tabling.{lists_at, lists-set, lists_kept, appended-short, sound_set}
use Rattle.schemes.proofs.tables.Tables.extend.Goals as goal

pub unreachable-requires : goal.unreachable-requires
unreachable-requires c = let n = c.in_ok-numbers.ensures in omega (arith, some c.args.rest.now n.0 _ n.1 (c.as_slice.ensures.value ∙ n.2))

pub listed : goal.listed
listed c = let n = c.in_ok-numbers.ensures in omega (arith, c.args.self.now.whole, table_named c.args.rest.now n.0 _ n.1 (c.as_slice.ensures.value ∙ n.2))

pub bounds-self-table : goal.bounds-self-table
bounds-self-table c = let n = c.in_ok-numbers.ensures in omega (arith, table_named c.args.rest.now n.0 _ n.1 (c.as_slice.ensures.value ∙ n.2))

pub invariant_of-self : goal.invariant_of-self
invariant_of-self c =
    let n = c.in_ok-numbers.ensures in
    let ts = c.args.self.now.tables in
    let i = get_or c.as_slice.result.now 0 0 in
    let old = (get_or ts i c.index-self-table.result).items in
    let more = take (length c.as_slice.result.now - 1) (drop 1 c.as_slice.result.now) in
    let listed : i < length ts = omega (arith, c.args.self.now.whole, table_named c.args.rest.now n.0 _ n.1 (c.as_slice.ensures.value ∙ n.2)) in
    let was : length old ≤ year_count = omega (arith, c.args.self.now.sound i, ap length (lists_at ts i c.index-self-table.result listed)) in
    record { whole = length-set ts i c.append.new.table ∙ c.args.self.now.whole; sound = sound_set ts i c.append.new.table c.args.self.now.sound listed (appended-short c.append.result old c.append.new.table.items more c.append.ensures was) }

pub returns-in_err-append : goal.returns-in_err-append
returns-in_err-append c =
    let n = c.in_ok-numbers.ensures in
    let kept = c.as_slice.ensures.value ∙ n.2 in
    let ts = c.args.self.now.tables in
    let i = get_or c.as_slice.result.now 0 0 in
    let here = lists_at ts i c.index-self-table.result (omega (arith, c.args.self.now.whole, table_named c.args.rest.now n.0 _ n.1 kept)) in
    let a = c.in_err-append.ensures in
    let p = err_from_is_err_and c.from_residual-in_err-append.result c.from_residual-in_err-append.ensures.1 in
    let more = take (length c.as_slice.result.now - 1) (drop 1 c.as_slice.result.now) in
    let e = appended_is c.args.rest.now (lists ts) n.0 c.as_slice.result.now i more false n.1 kept refl (take_rest c.as_slice.result.now 1) (sym a.1 ∙ ap (λ xs. fairly (xs ++ more)) here) in
    rw (p.1, p.2) (e ∙ ap (λ r. Err (of_refusal r)) (sym a.0), lists_kept ts i _ (a.2 ∙ here))

pub returns : goal.returns
returns c =
    let n = c.in_ok-numbers.ensures in
    let kept = c.as_slice.ensures.value ∙ n.2 in
    let ts = c.args.self.now.tables in
    let i = get_or c.as_slice.result.now 0 0 in
    let here = lists_at ts i c.index-self-table.result (omega (arith, c.args.self.now.whole, table_named c.args.rest.now n.0 _ n.1 kept)) in
    let a = c.in_ok-append.ensures in
    let more = take (length c.as_slice.result.now - 1) (drop 1 c.as_slice.result.now) in
    let e = appended_is c.args.rest.now (lists ts) n.0 c.as_slice.result.now i more true n.1 kept refl (take_rest c.as_slice.result.now 1) (sym a.0 ∙ ap (λ xs. fairly (xs ++ more)) here) in
    e ∙ ap (λ x. Ok x) (sym (lists-set ts i _ _ (a.1 ∙ ap (λ xs. xs ++ more) here)))
