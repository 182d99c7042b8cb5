-- The needs of `word`.
use Rattle.std.proofs.Common.{◌≡◌, ℕ, List, length, codes, sym, ap, rules, arith}
use Rattle.std.proofs.lemmas.Slice.Eq.{text_from_reads, HasBytesAt}
use Rattle.tokens.specs.Cut.{word_of}
use Rattle.tokens.proofs.words.word.Goals as goal

-- what is read byte by byte is the word
spelled : (part word : List ℕ) → length part ≡ length word → HasBytesAt part 0 word → word_of word ≡ word_of part
spelled part word long bytes = sym (ap word_of (text_from_reads part word long bytes))

pub returns-in-joint : goal.returns-in-joint
returns-in-joint c = spelled c.args.part.now (codes "joint") (omega arith) (search rules)

pub returns-in-last : goal.returns-in-last
returns-in-last c = spelled c.args.part.now (codes "last") (omega arith) (search rules)

pub returns-in-exactly : goal.returns-in-exactly
returns-in-exactly c = spelled c.args.part.now (codes "exactly") (omega arith) (search rules)

pub returns-in-atleast : goal.returns-in-atleast
returns-in-atleast c = spelled c.args.part.now (codes "atleast") (omega arith) (search rules)
