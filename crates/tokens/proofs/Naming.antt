-- A token names no seats but those that there are.
use Rattle.std.proofs.Common.{◌≡◌, ℕ, ◌+◌, ◌-◌, ◌<◌, ◌≤◌, true, List, [], ◌∷◌, slice_index, drop, Some, None, Ok, Err, Option, Result, refl, arith, lit<}
use lib.Bits.{bit_or, or_lt}
use lib.Pow.{pow-lt}
use Rattle.std.proofs.lemmas.Bool.Decides.{nat_tests}
use Rattle.std.specs.List.{AllByRecursion}
use Rattle.patterns.specs.Seats.{seats, patterns}
use Rattle.tokens.specs.declared.classes.Class.TheVariants.{Space, Lower, Seat}
use Rattle.tokens.specs.declared.Code.{Code}
use Rattle.tokens.specs.declared.faults.TokenFault.{TokenFault}
use Rattle.tokens.specs.declared.scan.Scanned.{Scanned}
use Rattle.tokens.specs.declared.Token.{Token}
use Rattle.tokens.specs.Classes.{member, end_at, run_at}
use Rattle.tokens.specs.Cut.{bit_of, set_of, word_of, mark_of, word_at, seats_at, token_at, scan_at}
use Rattle.tokens.specs.Letters.{seats_of}
use Rattle.tokens.specs.Look.{look, token_of}
use Rattle.tokens.proofs.Runs.{run-all}

bit_small : (b : ℕ) → member Seat b ≡ true → bit_of b < patterns
bit_small b h = let low : 65 ≤ b = grind (arith, nat_tests) in let high : b < 65 + seats = grind (arith, nat_tests) in pow-lt {i = b - 65} {j = seats} (omega arith)

set_few : (last set : ℕ) (bs : List ℕ) (s : ℕ) → set < patterns → AllByRecursion (λ b. member Seat b ≡ true) bs → set_of last set bs ≡ Some s → s < patterns
set_few last set [] s small h e = grind arith
set_few last set (b ∷ bs) s small h e = grind (arith, set_few b (bit_or set (bit_of b)) bs s (or_lt seats set (bit_of b) small (bit_small b h.0)) h.1)

word_few : (bs : List ℕ) (c : Code) → word_of bs ≡ Some c → seats_of c < patterns
word_few bs c e = grind arith

mark_few : (b : ℕ) (c : Code) → mark_of b ≡ Some c → seats_of c < patterns
mark_few b c e = grind arith

word_at_few : (text : List ℕ) (p : ℕ) (s : Scanned) → word_at text p ≡ Ok (Some s) → seats_of s.token.code < patterns
word_at_few text p s e = grind (arith, word_few (run_at text p Lower))

seats_at_few : (text : List ℕ) (p : ℕ) (s : Scanned) → seats_at text p ≡ Ok (Some s) → seats_of s.token.code < patterns
seats_at_few text p s e =
    let few : (x : ℕ) → set_of 0 0 (run_at text p Seat) ≡ Some x → x < patterns = λ x. set_few 0 0 (run_at text p Seat) x (lit< tt) (run-all (member Seat) (drop p text)) in
    grind (arith, few)

token_few : (text : List ℕ) (p b : ℕ) (s : Scanned) → token_at text p b ≡ Ok (Some s) → seats_of s.token.code < patterns
token_few text p b s e = grind (arith, word_at_few text p, seats_at_few text p, mark_few b)

scan_few : (text : List ℕ) (p : ℕ) (s : Scanned) → scan_at text p ≡ Ok (Some s) → seats_of s.token.code < patterns
scan_few text p s e = let q = end_at text p Space in grind (arith, token_few text q (slice_index text q))

-- the next token names only seats that there are
pub look_small : (text : List ℕ) (p : ℕ) (t : Token) → look text p ≡ Ok (Some t) → seats_of t.code < patterns
look_small text p t e = few_in (scan_at text p) (scan_few text p) e
  where
    few_in : (r : Result (Option Scanned) TokenFault) → ((s : Scanned) → r ≡ Ok (Some s) → seats_of s.token.code < patterns) → token_of r ≡ Ok (Some t) → seats_of t.code < patterns
    few_in (Ok None) h e = grind arith
    few_in (Ok (Some s)) h e = grind (arith, h s refl)
    few_in (Err f) h e = grind arith
