-- What a line of a life does to the book.
use Rattle.std.specs.Prelude.{◌≡◌, ℕ, ◌*◌, min, cond, ◌&&◌, List, [], replicate, Ok, Err, Result, ◌==◌, nat_le, nat_lt, slice_index, slice_index_or}
use Rattle.refusals.specs.declared.Refusal.{Refusal}
use Rattle.refusals.specs.declared.Refusal.TheVariants.{Counts, Limit}
use Rattle.lives.specs.Column.{column}
use Rattle.lives.specs.Counts.{listed, straight, later}
use Rattle.lives.specs.Tables.{fairly}
use Rattle.lives.specs.Projection.{projected, entries}
use Rattle.cases.specs.Book.{Book, Call, Answer, judged, done, enrol}
use Rattle.lines.specs.declared.kind.Kind.TheVariants as kind
use Rattle.schemes.specs.declared.fault.Fault.{Fault}
use Rattle.schemes.specs.declared.fault.Fault.TheVariants.{At}
use Rattle.schemes.specs.Most.{year_count}
use Rattle.schemes.specs.Syntax.{given, by_read}

-- the counts of a basis, or why its load is refused
abbrev pub by_table : List ℕ → Result (ℕ → ℕ) Refusal
by_table xs = cond (fairly xs) (Ok (listed xs)) (Err Counts)

-- the counts of a life that falls by m each year for w years, or why there are none
abbrev pub by_step : ℕ → ℕ → Result (ℕ → ℕ) Refusal
by_step w m = cond (nat_le w 120 && nat_le (m * w) 1000000) (Ok (straight w m)) (Err Limit)

-- aged by some years, then projected with one factor throughout
abbrev pub adjusted : (ℕ → ℕ) → ℕ → ℕ → List ℕ
adjusted l aged factor = column (projected (later l (min aged year_count)) (entries (replicate year_count factor)))

-- the book after a call, or why it is refused
abbrev pub by_answer : Answer → Book → Result Book Refusal
by_answer (Ok u) b = Ok b
by_answer (Err e) b = Err e

-- a call on the case: the book after it, or why it is refused
abbrev pub call : Call → Book → Result Book Refusal
call c b = by_answer (judged c b) (done c b)

-- basis, Aged, Projected, then Enrol
abbrev pub enrolled : Result (ℕ → ℕ) Refusal → ℕ → ℕ → ℕ → Book → Result Book Refusal
enrolled (Err e) seat aged factor b = Err e
enrolled (Ok l) seat aged factor b = cond (nat_lt 10000 factor) (Err Limit) (call (enrol seat (adjusted l aged factor)) b)

-- kind a: table x; kind m: w = x, m = y
abbrev pub basis : ℕ → ℕ → ℕ → List (List ℕ) → Result (ℕ → ℕ) Refusal
basis kind x y tables = cond (kind == 97) (by_table (slice_index_or tables x [])) (by_step x y)

-- seat kind x y aged factor
abbrev pub enrolled_by : List ℕ → List (List ℕ) → Book → Result Book Refusal
enrolled_by ns tables b = enrolled (basis (slice_index ns 1) (slice_index ns 2) (slice_index ns 3) tables) (slice_index ns 0) (slice_index ns 4) (slice_index ns 5) b

-- a refused call refuses its line, at the line's begin
abbrev pub at_begin : {X : Type 0} → Result X Refusal → Result X Fault
at_begin (Ok x) = Ok x
at_begin (Err e) = Err (At 0 e)

-- L seat kind x y aged factor: the book after it
abbrev pub joined : List ℕ → List (List ℕ) → Book → Result Book Fault
joined rest tables b = by_read (given kind.Life rest) (λ ns. at_begin (enrolled_by ns tables b))

-- what was asked is done, or it is refused and nothing is changed
abbrev pub Leaves : {X E : Type 0} → Result X E → Result (Unit {0}) E → X → X → Type 0
Leaves asked (Ok u) new old = asked ≡ Ok new
Leaves asked (Err e) new old = (asked ≡ Err e) × (new ≡ old)
