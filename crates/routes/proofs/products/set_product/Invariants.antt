-- The invariant of `set_product`.
use Rattle.std.proofs.Common.{◌/◌, ◌^◌}
use Rattle.weights.specs.Exposures.{counted, standing}
use Rattle.routes.proofs.Running.{Running}
use Rattle.routes.proofs.products.set_product.Given as goal

abbrev pub invariant-loop-i : goal.invariant-loop-i
invariant-loop-i l = Running counted standing l.exposures.seats l.set l.i l.product (l.set / 2 ^ l.i)
