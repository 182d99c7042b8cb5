-- The answers as the reader works them out. Only the reader's own functions cite this.
use Rattle.std.specs.Prelude.{ℕ, ◌-◌, ◌^◌, bit_and, bit_or}
use Rattle.patterns.specs.Seats.{patterns}
use Rattle.expressions.specs.declared.Group.{Group}
use Rattle.expressions.specs.declared.Group.TheVariants as kind
use Rattle.expressions.specs.Grammar.{Tree, seat, group, not, and, or}
use Rattle.expressions.specs.Meaning.{group_holds, packed}

-- yes in every pattern
abbrev pub always : ℕ
always = 2 ^ patterns - 1

-- the answers of a group
abbrev pub group_mask : Group → ℕ → ℕ
group_mask g s = packed (group_holds g s) patterns

-- the answers of a tree
abbrev pub mask_of : Tree → ℕ
mask_of (seat s) = group_mask kind.Last s
mask_of (group g s) = group_mask g s
mask_of (not a) = always - mask_of a
mask_of (and a b) = bit_and (mask_of a) (mask_of b)
mask_of (or a b) = bit_or (mask_of a) (mask_of b)
