-- What is left to show of `numbers`.
use Rattle.std.proofs.Common.{◌≡◌, length, true, false, Err, sym, refl, ap, ◌∙◌, inl, arith, rules}
use Rattle.std.proofs.lemmas.Iterator.Consumers.{count_from_yields_List, YieldsList-from_first}
use Rattle.schemes.specs.Places.{ahead, seen}
use Rattle.schemes.specs.Syntax.{counted}
use Rattle.lines.specs.Pieces.{fields}
use Rattle.schemes.proofs.Counted.{fields-length, placed-length}
use Rattle.schemes.proofs.reading.numbers.Goals as goal

pub count-requires-clause-fits : goal.count-requires-clause-fits
count-requires-clause-fits c = inl (omega (arith, ap length c.of.ensures, placed-length 2 (fields c.args.rest.now), fields-length c.args.rest.now))

pub returns-then-not-complete : goal.returns-then-not-complete
returns-then-not-complete c =
    let n : c.count.result ≡ length (ahead c.of.result) = count_from_yields_List _ _ c.count.ensures.ran (YieldsList-from_first seen ahead _ refl) in
    let all : counted c.args.kind (length (fields c.args.rest.now)) ≡ c.complete.result = ap (counted c.args.kind) (sym (n ∙ ap length c.of.ensures ∙ placed-length 2 (fields c.args.rest.now))) ∙ sym c.complete.ensures in
    let e : counted c.args.kind (length (fields c.args.rest.now)) ≡ false = all ∙ search rules in
    rw e (ap Err (sym c.into.ensures))

pub returns : goal.returns
returns c =
    let n : c.count.result ≡ length (ahead c.of.result) = count_from_yields_List _ _ c.count.ensures.ran (YieldsList-from_first seen ahead _ refl) in
    let all : counted c.args.kind (length (fields c.args.rest.now)) ≡ c.complete.result = ap (counted c.args.kind) (sym (n ∙ ap length c.of.ensures ∙ placed-length 2 (fields c.args.rest.now))) ∙ sym c.complete.ensures in
    let e : counted c.args.kind (length (fields c.args.rest.now)) ≡ true = all ∙ search rules in
    rw e c.read_all.ensures
