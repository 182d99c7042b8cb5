-- A run, one line on.
use Rattle.std.proofs.Common.{◌≡◌, ℕ, ◌+◌, ◌-◌, ◌<◌, ◌≤◌, min, Bool, true, false, Bor, inl, inr, get_or, eqb, leb, List, [], ◌∷◌, ◌++◌, length, take, drop, Ok, Err, sym, refl, ap, ◌∙◌, subst, arith}
use Rattle.std.proofs.lemmas.List.{append_assoc, append-nil, length-append, length-take-le, drop-drop, take_all, take_more, get_or-take, get_or_append_left}
use Rattle.std.proofs.lemmas.Bool.{cases_lt, eqb-true}
use Rattle.refusals.specs.declared.Refusal.TheVariants as refusal
use Rattle.std.specs.Fn.{ComputesKey, CalledAt}
use Rattle.std.specs.List.{IsFirstMatchOrLen, All}
use Rattle.std.proofs.lemmas.Fn.{always_returns_same}
use Rattle.std.proofs.lemmas.List.Splits.{slice_split_at, slice_split_none}
use denote.Param.Members.{Mut}
use Rattle.writing.specs.declared.output.Output.{Output}
use Rattle.writing.specs.Printed.{Written}
use Rattle.writing.specs.Outputs.{room, Adds}
use Rattle.lines.specs.Pieces.{pieces}
use Rattle.lines.proofs.Cutting.{pieces-some}
use Rattle.schemes.specs.declared.fault.Fault.{Fault}
use Rattle.schemes.specs.declared.fault.Fault.TheVariants.{At}
use Rattle.schemes.specs.declared.fault.LineFault.{LineFault}
use Rattle.schemes.specs.Faults.{in_line}
use Rattle.sessions.specs.State.{State, beginning}
use Rattle.sessions.specs.Machine.{Done, Lined}
use Rattle.runs.specs.declared.outcome.Stop.TheVariants.{Refused, Full}
use Rattle.runs.specs.Run.{Ran, ran, after, spoken, blamed, refused, Runs, whole, endless, stops, full, goes_on}

-- every run of what is left of a file is, after what has been printed, a run of the file
abbrev pub Continues : List ℕ → ℕ → State → ℕ → ℕ → List ℕ → List ℕ → Type 0
Continues file all s k room rest done = (r : Ran) → Runs s k room (pieces 10 rest) r → Runs beginning 1 all (pieces 10 file) (after done r)

-- pieces are never none
pub record Some-piece (ps : List (List ℕ)) : Type 0 where
  pub next : List ℕ
  pub more : List (List ℕ)
  pub is : ps ≡ next ∷ more

some_piece : (stop : ℕ) (bs : List ℕ) → Some-piece (pieces stop bs)
some_piece stop bs = first_of (pieces stop bs) (pieces-some stop bs)
  where
    first_of : (ps : List (List ℕ)) → 0 < length ps → Some-piece ps
    first_of [] h = absurd (omega arith)
    first_of (p ∷ ps) h = record { next = p; more = ps; is = refl }

-- the lines of what is left, where its first line has an end
lines_are : (bs line left : List ℕ) → pieces 10 bs ≡ line ∷ pieces 10 left → pieces 10 bs ≡ line ∷ (some_piece 10 left).next ∷ (some_piece 10 left).more
lines_are bs line left e = e ∙ ap (λ ps. line ∷ ps) (some_piece 10 left).is

pub run_stops : (s : State) (k room : ℕ) (bs line left : List ℕ) (f : Fault) → pieces 10 bs ≡ line ∷ pieces 10 left → Lined line s (Err f) → Runs s k room (pieces 10 bs) (refused room (in_line k f))
run_stops s k room bs line left f e h =
    subst (λ ps. Runs s k room ps (refused room (in_line k f))) (sym (lines_are bs line left e))
    (stops s k room line (some_piece 10 left).next (some_piece 10 left).more f h)

pub run-full : (s : State) (k room : ℕ) (bs line left : List ℕ) (d : Done) → pieces 10 bs ≡ line ∷ pieces 10 left → Lined line s (Ok d) → room < length (spoken d.said k) → Runs s k room (pieces 10 bs) (ran [] (Err Full))
run-full s k room bs line left d e h l =
    subst (λ ps. Runs s k room ps (ran [] (Err Full))) (sym (lines_are bs line left e))
    (full s k room line (some_piece 10 left).next (some_piece 10 left).more d h l)

pub run_on : (s : State) (k room : ℕ) (bs line left : List ℕ) (d : Done) (r : Ran) → pieces 10 bs ≡ line ∷ pieces 10 left → Lined line s (Ok d) → length (spoken d.said k) ≤ room
    → Runs d.state (k + 1) (room - length (spoken d.said k)) (pieces 10 left) r → Runs s k room (pieces 10 bs) (after (spoken d.said k) r)
run_on s k room bs line left d r e h l n =
    subst (λ ps. Runs s k room ps (after (spoken d.said k) r)) (sym (lines_are bs line left e))
    (goes_on s k room line (some_piece 10 left).next (some_piece 10 left).more d r h l
    (subst (λ ps. Runs d.state (k + 1) (room - length (spoken d.said k)) ps r) (some_piece 10 left).is n))

pub run_endless : (s : State) (k room : ℕ) (bs : List ℕ) → 0 < length bs → pieces 10 bs ≡ bs ∷ [] → Runs s k room (pieces 10 bs) (refused room (in_line k (At 0 refusal.Line)))
run_endless s k room [] h e = absurd (omega arith)
run_endless s k room (c ∷ cs) h e = subst (λ ps. Runs s k room ps (refused room (in_line k (At 0 refusal.Line)))) (sym e) (endless s k room c cs)

pub run_whole : (s : State) (k room : ℕ) (bs : List ℕ) → length bs ≡ 0 → Runs s k room (pieces 10 bs) (ran [] (Ok tt))
run_whole s k room [] h = whole s k room
run_whole s k room (c ∷ cs) h = absurd (omega arith)

-- bytes after bytes
pub after-after : (a b : List ℕ) (r : Ran) → after a (after b r) ≡ after (a ++ b) r
after-after a b r = λ i. ran (sym (append_assoc a b r.bytes) i) r.ending

-- a refusal that fits is printed after what has been printed, and another is not
pub blamed_after : (done : List ℕ) (room : ℕ) (f : LineFault) → true ≡ leb (length (blamed f)) room → after done (refused room f) ≡ ran (done ++ blamed f) (Err (Refused f))
blamed_after done room f e = rw (← e) refl

pub blamed-full : (done : List ℕ) (room : ℕ) (f : LineFault) → false ≡ leb (length (blamed f)) room → after done (refused room f) ≡ ran (done ++ []) (Err Full)
blamed-full done room f e = rw (← e) refl

-- outputs: nothing added, one addition after another, and the room that is left
pub adds_none : (a : Output) → Adds a a []
adds_none a = record {
  lent = refl;
  written = record { within = a.within; long = refl; front = sym (append-nil (take a.len a.area.now)); back = refl };
}

written_len : (a b : List ℕ) (f t : ℕ) (xs : List ℕ) → f ≤ length a → Written a f b t xs → t ≡ f + length xs
written_len a b f t xs h w = sym (length-take-le t b w.within) ∙ ap length w.front ∙ length-append (take f a) xs ∙ ap (λ n. n + length xs) (length-take-le f a h)

pub adds-on : (a b c : Output) (xs ys : List ℕ) → Adds a b xs → Adds b c ys → Adds a c (xs ++ ys)
adds-on a b c xs ys p q =
    let w = p.written in
    let v = q.written in
    let n = written_len b.area.now c.area.now b.len c.len ys b.within v in
    let d : drop c.len b.area.now ≡ drop c.len a.area.now = ap (λ m. drop m b.area.now) n ∙ sym (drop-drop (length ys) b.len b.area.now) ∙ ap (drop (length ys)) w.back ∙ drop-drop (length ys) b.len a.area.now ∙ ap (λ m. drop m a.area.now) (sym n) in
    record {
      lent = q.lent ∙ p.lent;
      written = record {
        within = v.within;
        long = v.long ∙ w.long;
        front = v.front ∙ ap (λ zs. zs ++ ys) w.front ∙ append_assoc (take a.len a.area.now) xs ys;
        back = v.back ∙ d;
      };
    }

pub room_left : (b c : Output) (xs : List ℕ) → Adds b c xs → room c ≡ room b - length xs
room_left b c xs p = omega (arith, p.written.long, written_len b.area.now c.area.now b.len c.len xs b.within p.written)

-- what a step of the split at byte 10 says: the text that it takes off, and what is left
pub record Taken (rest text left : List ℕ) : Type 0 where
  pub whole : rest ≡ text ++ left
  pub some : 0 < length rest
  pub place : ℕ
  pub long : length text ≡ min (place + 1) (length rest)
  pub first : IsFirstMatchOrLen (λ b. eqb b 10) rest place

-- the step, by what each call of the closure answers
pub taken : {F : Type 0} {g : Mut F (Bor ℕ × Unit {0}) Bool} {f h : F} (rest text left : List ℕ)
    → (rest ≡ text ++ left) × ((i : ℕ) × (length text ≡ min (i + 1) (length rest)) × ((p : ℕ → Bool) → ComputesKey g p f → ComputesKey g p h × IsFirstMatchOrLen p rest i)) × (0 < length rest)
    → ((a : ℕ) (b : Bool) (q : F) → CalledAt g f a b q → (q ≡ f) × (b ≡ eqb a 10)) → Taken rest text left
taken {g = g} {f = f} rest text left step calls =
    let key = always_returns_same g (λ a r. r ≡ eqb a.0.now 10) f (λ a r q k. let m = calls a.0.now r q (record { shown = a.0; shows = refl; called = k }) in (m.1, m.0)) in
    record { whole = step.0; some = step.2; place = step.1.0; long = step.1.1; first = (step.1.2 (λ b. eqb b 10) key).1 }

-- a text that ends at byte 10 is the first line and its end
pub taken_line : (rest text left : List ℕ) → Taken rest text left → get_or text (length text - 1) 0 ≡ 10 → pieces 10 rest ≡ take (length text - 1) text ∷ pieces 10 left
taken_line rest text left t e =
    let n = length text - 1 in
    let l : n + 1 ≡ length text = omega (arith, t.long, t.some) in
    let b : n ≤ t.place = omega (arith, t.long, t.some) in
    let x : text ≡ take n text ++ 10 ∷ [] = sym (take_all (n + 1) text (omega arith)) ∙ take_more text n 0 (omega arith) ∙ ap (λ y. take n text ++ y ∷ []) e in
    let w : rest ≡ take n text ++ 10 ∷ left = t.whole ∙ ap (λ y. y ++ left) x ∙ append_assoc (take n text) (10 ∷ []) left in
    let at : (k d : ℕ) → k < n → get_or (take n text) k d ≡ get_or rest k d = λ k d m. get_or-take n text k d m ∙ sym (get_or_append_left text left d k (omega arith)) ∙ ap (λ y. get_or y k d) (sym t.whole) in
    let other : All (λ y. eqb y 10 ≡ false) (take n text) = λ k d m. ap (λ y. eqb y 10) (at k d (omega (arith, m, length-take-le n text (omega arith)))) ∙ t.first.0 k d (omega arith) (omega (arith, m, length-take-le n text (omega arith))) in
    ap (pieces 10) w ∙ slice_split_at (λ y. eqb y 10) (take n text) 10 left other refl

-- a text that does not is a line without end
pub taken-endless : (rest text left : List ℕ) → Taken rest text left → (get_or text (length text - 1) 0 ≡ 10 → ⊥) → pieces 10 rest ≡ rest ∷ []
taken-endless rest text left t other =
    elim (cases_lt t.place (length rest)) [
      | inl l ↦ absurd (other (ap (λ y. get_or text y 0) (omega (arith, t.long)) ∙ sym (get_or_append_left text left 0 t.place (omega (arith, t.long))) ∙ ap (λ y. get_or y t.place 0) (sym t.whole) ∙ eqb-true (get_or rest t.place 0) 10 (t.first.1 l 0)))
      | inr l ↦ slice_split_none (λ y. eqb y 10) rest (λ k d m. t.first.0 k d (omega arith) (omega arith))
    ]
