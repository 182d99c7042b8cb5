-- What stands open to the left of a part, and what may still follow. Only the reader's own functions cite this.
use Rattle.std.specs.Prelude.{◌≡◌, List, [], ◌∷◌}
use Rattle.tokens.specs.declared.Code.{Code}
use Rattle.tokens.specs.declared.Code.TheVariants as code
use Rattle.expressions.specs.Grammar.{Tree, Part, Reads, not, and, or, factor, ands, term, ors, expression}

-- what stands open to the left of a part
pub data Open : Part → Type 0 where
  whole : Open expression
  inside : Open factor → Open expression
  first : Open expression → Open term
  after_or : Tree → Open expression → Open term
  lone : Open term → Open factor
  after_and : Tree → Open term → Open factor
  after_not : Open factor → Open factor

-- After k a us t: where a fills k, the tokens us complete it to t
abbrev pub After : {p : Part} → Open p → Tree → List Code → Tree → Type 0
After whole a us t = (us ≡ []) × (t ≡ a)
After (inside k) a us t = (vs : List Code) × (us ≡ code.Close ∷ vs) × After k a vs t
After (first k) a us t = (vs : List Code) × (b : Tree) × Reads (ors a) us vs b × After k b vs t
After (after_or c k) a us t = (vs : List Code) × (b : Tree) × Reads (ors (or c a)) us vs b × After k b vs t
After (lone k) a us t = (vs : List Code) × (b : Tree) × Reads (ands a) us vs b × After k b vs t
After (after_and c k) a us t = (vs : List Code) × (b : Tree) × Reads (ands (and c a)) us vs b × After k b vs t
After (after_not k) a us t = After k (not a) us t
