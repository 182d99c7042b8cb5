-- What reading a benefit answers.
use Rattle.std.specs.Prelude.{◌≡◌, ℕ, ◌+◌, ◌<◌, ◌&&◌, List, [], ◌∷◌, ◌++◌, length, Ok, Err, MatchBool, Result, nat_le, slice_index}
use Rattle.refusals.specs.declared.Refusal.TheVariants.{Memory, Number, TooManyClauses, AboveFull}
use Rattle.patterns.specs.Seats.{patterns}
use Rattle.benefits.specs.declared.benefit.Benefit.{Benefit}
use Rattle.benefits.specs.declared.clauses.Clause.{Clause}
use Rattle.benefits.specs.declared.faults.ClauseFault.{ClauseFault}
use Rattle.benefits.specs.declared.faults.BenefitFault.{BenefitFault}
use Rattle.benefits.specs.declared.faults.BenefitFault.TheVariants as fault
use Rattle.benefits.specs.declared.sums.Sums.{Sums}
use Rattle.benefits.specs.Clauses.{ClauseVerdict, clauses_of, share_of, total, named_by}
use Rattle.benefits.specs.Shares.{share}

-- each text is a clause, and says what stands at the same place in the list
abbrev pub Say : List (List ℕ) → List Clause → ℕ → ℕ → Type 0
Say [] [] p a = Unit {0}
Say [] (c ∷ cs) p a = ⊥
Say (t ∷ ts) [] p a = ⊥
Say (t ∷ ts) (c ∷ cs) p a = ClauseVerdict (share_of t) (Ok c) 0 t p a × Say ts cs p a

-- how far the clauses reach in the text, each with the byte that ends it
abbrev pub reach : List (List ℕ) → ℕ
reach [] = 0
reach (t ∷ ts) = length t + 1 + reach ts

-- the first clause that cannot be read is the one after `before`, and has the fault e
pub record Faulty (e : ClauseFault) (texts : List (List ℕ)) (p a : ℕ) : Type 0 where
  pub before : List (List ℕ)
  pub clauses : List Clause
  pub text : List ℕ
  pub later : List (List ℕ)
  pub parts : texts ≡ before ++ text ∷ later
  pub said : Say before clauses p a
  pub numbered : e.clause ≡ length before + 1
  pub wrong : ClauseVerdict (share_of text) (Err (record { start = e.start; fault = e.fault })) (reach before) text p a

-- the texts are clauses, and their seats and shares are added up
pub record Added (s : Sums) (texts : List (List ℕ)) (p a : ℕ) : Type 0 where
  pub clauses : List Clause
  pub said : Say texts clauses p a
  pub names : s.named ≡ named_by clauses
  pub long : length s.twentieths ≡ patterns
  pub pays : (q : ℕ) → q < patterns → slice_index s.twentieths q ≡ total clauses q

-- what reading the clauses answers
abbrev pub ClausesRead : Result Sums ClauseFault → List (List ℕ) → ℕ → ℕ → Type 0
ClausesRead (Ok s) texts p a = Added s texts p a
ClausesRead (Err e) texts p a = Faulty e texts p a

-- the texts are clauses that make up the benefit
pub record Made (b : Benefit) (amount : ℕ) (texts : List (List ℕ)) (p a : ℕ) : Type 0 where
  pub clauses : List Clause
  pub said : Say texts clauses p a
  pub amounts : b.amount ≡ amount
  pub names : b.named ≡ named_by clauses
  pub pays : (q : ℕ) → q < patterns → share b q ≡ total clauses q

-- the texts are clauses that pay more than the full share in some pattern
pub record Above (texts : List (List ℕ)) (p a : ℕ) : Type 0 where
  pub clauses : List Clause
  pub said : Say texts clauses p a
  pub pattern : ℕ
  pub there : pattern < patterns
  pub more : 20 < total clauses pattern

-- of at most eight clauses: the first that cannot be read decides, and then a pattern above the full share
abbrev pub OfClauses : Result Benefit BenefitFault → ℕ → List (List ℕ) → ℕ → ℕ → Type 0
OfClauses (Ok b) amount texts p a = Made b amount texts p a
OfClauses (Err (fault.Clause e)) amount texts p a = Faulty e texts p a
OfClauses (Err (fault.Refused x)) amount texts p a = (x ≡ AboveFull) × Above texts p a

-- with room for p words and a answers: the lists' lengths decide first, then the amount, and then the number of clauses
abbrev pub BenefitRead : Result Benefit BenefitFault → ℕ → List ℕ → ℕ → ℕ → Type 0
BenefitRead r amount text p a =
    MatchBool (nat_le 64 p && nat_le 64 a) (
    MatchBool (nat_le 1 amount && nat_le amount 500000000) (
    MatchBool (nat_le (length (clauses_of text)) 8)
    (OfClauses r amount (clauses_of text) p a)
    (r ≡ Err (fault.Refused TooManyClauses)))
    (r ≡ Err (fault.Refused Number)))
    (r ≡ Err (fault.Refused Memory))
