-- The needs of `exposures`.
use Rattle.std.proofs.Common.{◌≡◌, ℕ, ◌+◌, ◌^◌, ◌<◌, ◌≤◌, subst, cond, List, length, get_or, sym, ap, ◌∙◌, arith, rules}
use Rattle.lives.proofs.Columns.{made_each}
use Rattle.weights.specs.declared.exposure.Exposure.{Exposure}
use Rattle.patterns.specs.Anys.{is_member}
use Rattle.weights.specs.Exposures.{lost, Sound, Present, D}
use Rattle.patterns.specs.Seats.{seats}
use Rattle.patterns.specs.Patterns.{flags}
use Rattle.weights.specs.Patterns.{kept}
use Rattle.seats.specs.Seats.{seat_at}
use Rattle.cases.specs.Views.{book_of}
use Rattle.cases.specs.Book.{seen_mark}
use Rattle.cases.specs.Weighing.{exposure_by, exposure_for, exposures_for}
use Rattle.cases.proofs.Supposed.{supposed_exposure, view_columns, view_within}
use Rattle.cases.proofs.Weighings.{held_found, held_sound, held-present, held_small}
use Rattle.cases.proofs.inforce.view.View.exposures.Goals as goal

found_is : (c : goal.After-from_fn-seats) → c.from_fn-seats.result ≡ kept (flags seats c.named-named.result) (exposures_for (book_of c.args.self.now) c.args.year)
found_is c =
    let v = c.args.self.now in
    let b = book_of v in
    let xs = v.case.now.table.seats in
    let N = c.named-named.result in
    let each : ℕ → Exposure = λ k. cond (is_member N k) (exposure_for b.elapsed c.args.year (seat_at b.seats k)) lost in
    held_found b (view_columns v) (view_within v) c.args.year N c.from_fn-seats.result c.from_fn-seats.ensures.items.long
    (made_each _ each _ (record { count = 0; present = 0 }) seats (λ i h y q k.
    let here : i < length xs = omega (arith, h, v.case.now.columns.0) in
    let raw : y ≡ cond (is_member N i) (exposure_by (seen_mark v.supposed i (seat_at xs i).mark) (get_or (seat_at xs i).counts (b.elapsed + c.args.year) 0) (get_or (seat_at xs i).counts b.elapsed 0)) lost = search rules in
    (raw ∙ ap (λ (x : Exposure). cond (is_member N i) x lost) (supposed_exposure v.supposed xs i b.elapsed c.args.year here), search rules)) c.from_fn-seats.result c.from_fn-seats.ensures.items)

pub invariant_of-result : goal.invariant_of-result
invariant_of-result c =
    let v = c.args.self.now in
    let b = book_of v in
    let e = sym (found_is c) in
    record { long = c.from_fn-seats.ensures.items.long; sound = subst Sound e (held_sound b (view_columns v) (view_within v) c.args.year c.named-named.result); present = subst Present e (held-present b (view_columns v) (view_within v) c.args.year c.named-named.result); small = subst (λ (xs : List Exposure). D xs ≤ 10 ^ 16) e (held_small b (view_within v) c.args.year c.named-named.result) }

pub returns : goal.returns
returns c = found_is c.before ∙ ap (λ (N : ℕ). kept (flags seats N) (exposures_for (book_of c.args.self.now) c.args.year)) c.named-named.ensures
