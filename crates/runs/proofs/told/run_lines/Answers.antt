-- The needs of `run_lines`.
use Rattle.std.proofs.Common.{◌≡◌, ◌+◌, ◌-◌, [], ◌++◌, leb, true, false, length, take, Ok, Err, sym, ap, ◌∙◌, subst, rules, tests}
use Rattle.std.proofs.lemmas.Result.{err_from_is_err_and}
use Rattle.std.proofs.lemmas.Bool.{leb-true, leb-false}
use Rattle.std.proofs.lemmas.List.{append-nil}
use Rattle.writing.specs.Outputs.{room, Adds}
use Rattle.lines.specs.Pieces.{pieces}
use Rattle.schemes.specs.Faults.{in_line}
use Rattle.sessions.specs.State.{state_of, beginning}
use Rattle.sessions.specs.Machine.{Lined}
use Rattle.runs.specs.Run.{Runs, ran, after, spoken}
use Rattle.runs.specs.declared.outcome.Stop.TheVariants.{Refused, Full}
use Rattle.runs.proofs.Running.{run_stops, run-full, run_on, run_endless, run_whole, after-after, adds_none, adds-on, room_left, taken, taken_line, taken-endless}
use Rattle.runs.proofs.told.run_lines.Goals as goal

pub loop-before-init : goal.loop-before-init
loop-before-init c =
    let s : state_of c.new-session.result ≡ beginning = c.new-session.ensures in
    let n : c.into_iter-before-iterator.result.count ≡ 0 = search rules in
    let f : c.into_iter-before-iterator.result.iter.rest.now ≡ c.args.file.now = search rules in
    ([], adds_none c.args.output.now, λ r m. rw (s, n, f) at m)

pub returns-in_default : goal.returns-in_default
returns-in_default c =
    let h = c.loop-before.invariant in
    let rest = c.loop-before.before-iterator.iter.rest.now in
    let t = taken rest c.in-Some.text.now c.next.new.self.iter.rest.now c.in-Some.ensures.steps.0 (λ a b q k. search (rules, tests)) in
    let e = taken-endless rest c.in-Some.text.now c.next.new.self.iter.rest.now t (search rules) in
    (h.0, h.1, rw (c.in-Some.ensures.steps.1, c.into-fault.ensures) (h.2 _ (run_endless (state_of c.loop-before.session) (c.loop-before.before-iterator.count + 1) (room c.loop-before.output) rest t.some e)))

pub returns-in_err-said : goal.returns-in_err-said
returns-in_err-said c =
    let h = c.loop-before.invariant in
    let s = state_of c.loop-before.session in
    let n = c.loop-before.before-iterator.count + 1 in
    let rest = c.loop-before.before-iterator.iter.rest.now in
    let text = c.in-Some.text.now in
    let left = c.next.new.self.iter.rest.now in
    let p = taken_line rest text left (taken rest text left c.in-Some.ensures.steps.0 (λ a b q k. search (rules, tests))) (search rules) in
    let line = take (length text - 1) text in
    let z = c.in_err-said.field-0.0 in
    let f : c.step.result ≡ Err z.fault = search rules in
    let l : Lined line s (Err z.fault) = rw f at c.step.ensures.lined in
    let m : z.number ≡ c.in-Some.before + 1 = search rules in
    let q = err_from_is_err_and c.from_residual.result c.from_residual.ensures.1 in
    let e : c.from_residual.result ≡ Err (Refused (in_line n z.fault)) = q.1 ∙ ap (λ x. Err x) (q.2 ∙ ap (λ k. Refused (in_line k z.fault)) (m ∙ ap (λ k. k + 1) c.in-Some.ensures.steps.1)) in
    (h.0, h.1, rw e (h.2 _ (run_stops s n (room c.loop-before.output) rest line left z.fault p l)))

pub returns-in_err-speak : goal.returns-in_err-speak
returns-in_err-speak c =
    let h = c.loop-before.invariant in
    let b = c.loop-before.output in
    let s = state_of c.loop-before.session in
    let n = c.loop-before.before-iterator.count + 1 in
    let rest = c.loop-before.before-iterator.iter.rest.now in
    let text = c.in-Some.text.now in
    let left = c.next.new.self.iter.rest.now in
    let p = taken_line rest text left (taken rest text left c.in-Some.ensures.steps.0 (λ a b q k. search (rules, tests))) (search rules) in
    let line = take (length text - 1) text in
    let said = c.in_ok-said.said in
    let next = state_of c.step.new.self in
    let f : c.step.result ≡ Ok said = search rules in
    let l : Lined line s (Ok (record { state = next; said = said })) = rw f at c.step.ensures.lined in
    let k : c.in-Some.before + 1 ≡ n = ap (λ k. k + 1) c.in-Some.ensures.steps.1 in
    let g : leb (length (spoken said n)) (room b) ≡ false = ap (λ k. leb (length (spoken said k)) (room b)) (sym k) ∙ sym c.in_err-speak.ensures.fits in
    let q = err_from_is_err_and c.from_residual-in_err-speak.result c.from_residual-in_err-speak.ensures.1 in (
      h.0 ++ [],
      adds-on c.args.output.now b c.speak.new.output h.0 [] h.1 c.in_err-speak.ensures.adds,
      rw (q.1, q.2) (h.2 (ran [] (Err Full)) (run-full s n (room b) rest line left (record { state = next; said = said }) p l (leb-false (length (spoken said n)) (room b) g))),
    )

pub loop-before-preserved : goal.loop-before-preserved
loop-before-preserved c =
    let h = c.loop-before.invariant in
    let b = c.loop-before.output in
    let s = state_of c.loop-before.session in
    let n = c.loop-before.before-iterator.count + 1 in
    let rest = c.loop-before.before-iterator.iter.rest.now in
    let text = c.in-Some.text.now in
    let left = c.next.new.self.iter.rest.now in
    let p = taken_line rest text left (taken rest text left c.in-Some.ensures.steps.0 (λ a b q k. search (rules, tests))) (search rules) in
    let line = take (length text - 1) text in
    let said = c.in_ok-said.said in
    let next = state_of c.step.new.self in
    let f : c.step.result ≡ Ok said = search rules in
    let l : Lined line s (Ok (record { state = next; said = said })) = rw f at c.step.ensures.lined in
    let k : c.in-Some.before + 1 ≡ n = ap (λ k. k + 1) c.in-Some.ensures.steps.1 in
    let g : leb (length (spoken said n)) (room b) ≡ true = ap (λ k. leb (length (spoken said k)) (room b)) (sym k) ∙ sym c.in_ok-speak.ensures.fits in
    let v : Adds b c.speak.new.output (spoken said n) = subst (λ k. Adds b c.speak.new.output (spoken said k)) k c.in_ok-speak.ensures.adds in (
      h.0 ++ spoken said n,
      adds-on c.args.output.now b c.speak.new.output h.0 (spoken said n) h.1 v,
      λ r m. subst (Runs beginning 1 (room c.args.output.now) (pieces 10 c.args.file.now)) (after-after h.0 (spoken said n) r)
          (h.2 (after (spoken said n) r)
          (run_on s n (room b) rest line left (record { state = next; said = said }) r p l (leb-true (length (spoken said n)) (room b) g)
          (rw (← room_left b c.speak.new.output (spoken said n) v, ← c.in-Some.ensures.steps.2) m))),
    )

pub returns : goal.returns
returns c =
    let h = c.loop-before.invariant in (
      h.0,
      h.1,
      subst (λ ws. Runs beginning 1 (room c.args.output.now) (pieces 10 c.args.file.now) (ran ws (Ok tt))) (append-nil h.0)
          (h.2 (ran [] (Ok tt)) (run_whole (state_of c.loop-before.session) (c.loop-before.before-iterator.count + 1) (room c.loop-before.output) c.loop-before.before-iterator.iter.rest.now (search rules))),
    )
