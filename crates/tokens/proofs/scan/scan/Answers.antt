-- The needs of `scan`.
use Rattle.std.proofs.Common.{◌≡◌, ℕ, ◌-◌, ◌<◌, true, List, length, get_or, take, drop, ap, ◌∙◌, subst, arith, rules}
use Rattle.std.proofs.lemmas.Bool.Decides.{nat_tests}
use Rattle.std.specs.List.{prefix_len, AllByRecursion}
use Rattle.std.proofs.ByRecursion.{All-get_or}
use Rattle.refusals.specs.declared.Refusal.TheVariants.{UnknownWord}
use Rattle.tokens.specs.declared.classes.Class.TheVariants.{Space, Lower, Seat}
use Rattle.tokens.specs.Classes.{member, end_at}
use Rattle.tokens.specs.Cut.{word_of, or_else, token, refused, scan_at}
use Rattle.tokens.proofs.Runs.{run-all}
use Rattle.tokens.proofs.scan.scan.Goals as goal

pub seat_set-requires : goal.seat_set-requires
seat_set-requires c =
    let rest = drop c.run_end-place.result c.args.text.now in
    let long : prefix_len (member Seat) rest ≡ c.run_end-end-then-has-2.result - c.run_end-place.result = omega (arith, c.run_end-end-then-has-2.ensures.end) in
    let P : ℕ → Type 0 = λ n. AllByRecursion (λ b. member Seat b ≡ true) (take n rest) in
    λ k h. All-get_or (λ b. member Seat b ≡ true) _ k 0 h (subst P long (run-all (member Seat) rest))

word_there : (text : List ℕ) (from p e b : ℕ) → p ≡ end_at text from Space → p < length text → b ≡ get_or text p 0 → true ≡ member Lower b → e ≡ end_at text p Lower → or_else (word_of (take (e - p) (drop p text))) (token p e) (refused UnknownWord p) ≡ scan_at text from
word_there text from p e b is lt here low ends = grind (arith, nat_tests)

pub returns-then-has-clause-value : goal.returns-then-has-clause-value
returns-then-has-clause-value c =
    let text = c.args.text.now in
    c.token.ensures ∙ ap (λ o. or_else o (token c.run_end-place.result c.run_end-end.result) (refused UnknownWord c.run_end-place.result)) c.word.ensures
    ∙ word_there text c.args.from c.run_end-place.result c.run_end-end.result c.in-Some.b c.run_end-place.ensures.end (search rules) (search rules) c.if-has.ensures c.run_end-end.ensures.end
