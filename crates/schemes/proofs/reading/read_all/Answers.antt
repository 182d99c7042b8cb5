-- What is left to show of `read_all`.
use Rattle.std.proofs.Common.{◌≡◌, [], ◌∷◌, ◌++◌, length, get_or, Ok, Err, sym, ap, ◌∙◌}
use Rattle.std.proofs.lemmas.Result.{err_from_is_err_and}
use Rattle.lines.specs.Pieces.{fields}
use Rattle.schemes.specs.Places.{ahead}
use Rattle.schemes.specs.Syntax.{shape, read}
use Rattle.schemes.proofs.Fielding.{reads_at, reads_placed, reads_more, reads_not, shape_kept, pushed}
use Rattle.schemes.proofs.reading.read_all.Goals as goal

pub loop-place-init : goal.loop-place-init
loop-place-init c =
    let all = ap ahead c.into_iter-place-iterator.ensures.into_iter_gives ∙ c.of-place-items.ensures in
    (tt, tt, [], c.new-numbers.ensures, ap (reads_at c.args.kind []) all ∙ reads_placed c.args.kind [] 2 (fields c.args.rest.now))

pub loop-place-preserved : goal.loop-place-preserved
loop-place-preserved c =
    let kept = c.loop-place.invariant in
    let k = c.args.kind in
    let n = c.in_ok-n.n in
    let sofar = kept.2 in
    let items = c.deref.ensures.0 ∙ kept.3 in
    let s : c.shape_of.result ≡ shape k (length sofar) (get_or sofar 1 0) = c.shape_of.ensures ∙ ap (λ ns. shape k (length ns) (get_or ns 1 0)) items ∙ shape_kept k sofar in
    let r : read (shape k (length sofar) (get_or sofar 1 0)) c.in-Some.place c.in-Some.field.now ≡ Ok n = ap (λ z. read z c.in-Some.place c.in-Some.field.now) (sym s) ∙ sym c.in_ok-n.ensures in
    (tt, tt, sofar ++ (n ∷ []), pushed sofar n _ _ c.try_push.result kept.3 c.try_push.ensures.ok c.try_push.ensures.err c.try_push.ensures.variant.0 c.try_push.ensures.full, sym (reads_more k sofar (c.in-Some.place, c.in-Some.field.now) (ahead c.next.new.self) n r) ∙ ap (reads_at k sofar) (sym c.in-Some.ensures.steps) ∙ kept.4)

pub returns-in_err-n : goal.returns-in_err-n
returns-in_err-n c =
    let kept = c.loop-place.invariant in
    let k = c.args.kind in
    let sofar = kept.2 in
    let items = c.deref.ensures.0 ∙ kept.3 in
    let s : c.shape_of.result ≡ shape k (length sofar) (get_or sofar 1 0) = c.shape_of.ensures ∙ ap (λ ns. shape k (length ns) (get_or ns 1 0)) items ∙ shape_kept k sofar in
    let p = err_from_is_err_and c.from_residual.result c.from_residual.ensures.1 in
    let r : read (shape k (length sofar) (get_or sofar 1 0)) c.in-Some.place c.in-Some.field.now ≡ Err c.in_err-n.field-0.0 = ap (λ z. read z c.in-Some.place c.in-Some.field.now) (sym s) ∙ sym c.in_err-n.ensures in
    rw (p.1, p.2) (sym kept.4 ∙ ap (reads_at k sofar) c.in-Some.ensures.steps ∙ reads_not k sofar (c.in-Some.place, c.in-Some.field.now) (ahead c.next.new.self) c.in_err-n.field-0.0 r)
