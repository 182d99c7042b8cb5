-- Where only the number of the named alive matters: n is the number of seats, f gives the share of a pattern by its number, N is the set of named seats.
use Rattle.std.specs.Prelude.{◌≡◌, ℕ, zero, suc, ◌^◌, ◌<◌, Bool, cond, not, ◌&&◌, T, ◌==◌}
use Rattle.patterns.specs.Anys.{any_to}
use Rattle.patterns.specs.Patterns.{size, within, flags}

-- the pattern p is within N, and has k alive
abbrev pub has_alive : ℕ → ℕ → ℕ → ℕ → Bool
has_alive n N k p = within (flags n p) (flags n N) && size (flags n p) == k

-- two patterns within N with equally many alive have the same share
abbrev pub OnlyNumber : ℕ → (ℕ → ℕ) → ℕ → Type 0
OnlyNumber n f N =
    (p q : ℕ) → p < 2 ^ n → q < 2 ^ n → T (within (flags n p) (flags n N)) → T (within (flags n q) (flags n N)) → size (flags n q) ≡ size (flags n p) → f p ≡ f q

-- the patterns p and q are within N, have equally many alive, and have different shares
abbrev pub differs : ℕ → (ℕ → ℕ) → ℕ → ℕ → ℕ → Bool
differs n f N p q = within (flags n p) (flags n N) && (has_alive n N (size (flags n p)) q && not (f p == f q))

-- do two patterns within N with equally many alive have different shares
unfoldable pub uneven : ℕ → (ℕ → ℕ) → ℕ → Bool
uneven n f N = any_to (2 ^ n) (λ p. any_to (2 ^ n) (λ q. differs n f N p q))

-- the share of the last pattern below m that is within N and has k alive, 0 where there is none
unfoldable pub share_below : ℕ → (ℕ → ℕ) → ℕ → ℕ → ℕ → ℕ
share_below n f N zero k = 0
share_below n f N (suc m) k = cond (has_alive n N k m) (f m) (share_below n f N m k)

-- c_k: the share with k of the named alive
abbrev pub share_with : ℕ → (ℕ → ℕ) → ℕ → ℕ → ℕ
share_with n f N k = share_below n f N (2 ^ n) k
