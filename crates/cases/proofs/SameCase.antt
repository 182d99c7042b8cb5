-- Two cases in force with the same table, years and supposition are the same.
use Rattle.std.proofs.Common.{◌≡◌, ℕ, ◌≤◌, List}
use mathlib.Core.HLevel.{is_prop→PathP}
use denote.Struct.Props.{props}
use Rattle.cases.specs.declared.inforce.InForce.{InForce}
use Rattle.seats.specs.declared.seat.Seat.{Seat}
use Rattle.seats.specs.Seats.{present, Columns, Within}

columns_prop : (xs : List Seat) → IsProp (Columns xs)
columns_prop xs = hlevel props

within_prop : (f : Seat → ℕ) (xs : List Seat) → IsProp (Within f xs)
within_prop f xs = hlevel props

young_prop : (n : ℕ) → IsProp (n ≤ 120)
young_prop n = hlevel props

pub same_case : (x y : InForce) → x.table ≡ y.table → x.elapsed ≡ y.elapsed → x.supposed ≡ y.supposed → x ≡ y
same_case x y p q r = λ i. record {
  table = p i;
  elapsed = q i;
  supposed = r i;
  columns = is_prop→PathP (λ j. Columns (p j).seats) (λ j. columns_prop (p j).seats) x.columns y.columns i;
  within = is_prop→PathP (λ j. Within (present (q j)) (p j).seats) (λ j. within_prop (present (q j)) (p j).seats) x.within y.within i;
  young = is_prop→PathP (λ j. q j ≤ 120) (λ j. young_prop (q j)) x.young y.young i;
}
