-- What the loop of `ProjectedLife::column` keeps.
use Rattle.std.proofs.Common.{◌≡◌, ℕ, ◌+◌, ◌<◌, ◌≤◌, length, get_or}
use Rattle.lives.specs.Projection.{projected, entries}
use Rattle.lives.proofs.projected.ProjectedLife.column.Given as goal

abbrev pub invariant-loop-t : goal.invariant-loop-t
invariant-loop-t g l =
    let below = g.L.Life.count l.self.life in
    let f = projected below (entries l.self.factors) in
    (length l.count-items ≡ 120) × (l.here ≡ below l.t) × (l.alive ≡ f l.t) × ((k : ℕ) → k < l.t → get_or l.count-items k 0 ≡ f (k + 1)) × ((k : ℕ) → l.t ≤ k → k < 120 → get_or l.count-items k 0 ≡ below (k + 1))
