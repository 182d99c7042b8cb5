-- The routes in words.
use Rattle.std.specs.Prelude.{ℕ, List, codes}
use Rattle.routes.specs.declared.route.Route.{Route}
use Rattle.routes.specs.declared.route.Route.TheVariants.{Patterns, Subsets, Counts}

-- how a route is printed
abbrev pub words : Route → List ℕ
words Patterns = codes "by patterns"
words Subsets = codes "by subsets"
words Counts = codes "by counts"
