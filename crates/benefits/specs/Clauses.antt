-- The clauses of a benefit: what each says, and what they pay together.
use Rattle.std.specs.Prelude.{◌≡◌, ℕ, ◌+◌, cond, List, drop, Some, None, Ok, Err, fold, sum_by, Option, Result, ◌==◌, bit_or}
use Rattle.refusals.specs.declared.Refusal.TheVariants.{Number}
use Rattle.tokens.specs.declared.classes.Class.TheVariants.{Space, Digit}
use Rattle.tokens.specs.Classes.{end_at, run_at}
use Rattle.tokens.specs.declared.faults.TokenFault.{TokenFault}
use Rattle.expressions.specs.declared.reads.ReadFault.TheVariants.{Token}
use Rattle.expressions.specs.Answers.{yes}
use Rattle.expressions.specs.Verdict.{Answered}
use Rattle.writing.specs.Numbers.{numbered}
use Rattle.lines.specs.Pieces.{pieces}
use Rattle.benefits.specs.declared.clauses.Clause.{Clause}
use Rattle.benefits.specs.declared.faults.PartFault.{PartFault}

-- the texts of the clauses: what lies between the bytes `;`
abbrev pub clauses_of : List ℕ → List (List ℕ)
clauses_of text = pieces 59 text

-- where a clause's share begins, after spaces
abbrev pub share_at : List ℕ → ℕ
share_at text = end_at text 0 Space

-- where its digits end
abbrev pub share_end : List ℕ → ℕ
share_end text = end_at text (share_at text) Digit

-- a number that is not 0
abbrev pub positive : Option ℕ → Option ℕ
positive None = None
positive (Some n) = cond (n == 0) None (Some n)

-- the share that a field writes: 1 to 20 twentieths
abbrev pub share_in : List ℕ → Option ℕ
share_in field = positive (numbered 20 field)

-- the share of a clause: its longest run of digits after spaces
abbrev pub share_of : List ℕ → Option ℕ
share_of text = share_in (run_at text (share_at text) Digit)

-- the text of a clause's expression: all that follows the share
abbrev pub expression_of : List ℕ → List ℕ
expression_of text = drop (share_end text) text

-- the fault of a share that is missing, ill-written or beyond its limit
abbrev pub no_share : TokenFault
no_share = record { refusal = Number; place = 0 }

-- what reading a clause answers that begins at the place `at`: a share first, and then an expression
abbrev pub ClauseVerdict : Option ℕ → Result Clause PartFault → ℕ → List ℕ → ℕ → ℕ → Type 0
ClauseVerdict None r at text p a = r ≡ Err (record { start = at + share_at text; fault = no_share })
ClauseVerdict (Some n) (Ok c) at text p a = (c.share ≡ n) × Answered (Ok c.reading) (expression_of text) p a
ClauseVerdict (Some n) (Err f) at text p a = (f.start ≡ at + share_end text) × Answered (Err (Token f.fault)) (expression_of text) p a

-- what a clause pays in a pattern: its share where its expression holds
abbrev pub paid : Clause → ℕ → ℕ
paid c p = cond (yes c.reading p) c.share 0

-- what clauses pay together in a pattern
abbrev pub total : List Clause → ℕ → ℕ
total cs p = sum_by (λ c. paid c p) cs

-- the seats that clauses name
abbrev pub named_by : List Clause → ℕ
named_by cs = fold (λ n c. bit_or n c.reading.named) 0 cs
