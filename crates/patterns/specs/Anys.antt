-- Tests over the numbers below a bound.
use Rattle.std.specs.Prelude.{ℕ, zero, suc, ◌/◌, ◌%◌, ◌^◌, Bool, true, false, cond, eqb}

-- does a test pass at a number below m
unfoldable pub any_to : ℕ → (ℕ → Bool) → Bool
any_to zero test = false
any_to (suc m) test = cond (test m) true (any_to m test)

-- is the seat i in the set of number N
abbrev pub is_member : ℕ → ℕ → Bool
is_member N i = eqb (N / 2 ^ i % 2) 1
