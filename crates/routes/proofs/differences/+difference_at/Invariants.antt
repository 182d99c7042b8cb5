-- The measure of `difference_at`.
use Rattle.routes.proofs.differences.+difference_at.Given as goal

abbrev pub decreases-difference_at : goal.decreases-difference_at
decreases-difference_at l = l.order
