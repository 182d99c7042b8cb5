-- Columns of counts, and lists that are filled or written.
use Rattle.std.proofs.Common.{◌≡◌, ℕ, zero, suc, ◌+◌, ◌-◌, ◌<◌, ◌≤◌, ◌≢◌, List, [], ◌∷◌, ◌++◌, length, drop, get_or, set, replicate, sym, refl, ap, ◌∙◌, ⊎_elim, add-zero, add-suc, add-one, arith, below_more, append-nil, subst, take}
use Rattle.std.proofs.lemmas.List.{get_or_past, get_or-take, get_or-drop, length-append, length-drop, length-take-le, length-replicate, get_or-set_same, get_or-set_other}
use Rattle.std.proofs.lemmas.Bool.{cases_lt}
use Rattle.std.proofs.lemmas.List.FromFn.{length-map-range_with_len, get_or-map-range_with_len, fill_by_all}
use Rattle.std.specs.Fn.{Mut, Called}
use Rattle.std.specs.Array.{IsFromFnResult, IsFromFnResultFrom}
use Rattle.lives.specs.Column.{column}
use Rattle.lives.specs.Counts.{later}

pub zeros_at : (n t : ℕ) → get_or {A = ℕ} (replicate n 0) t 0 ≡ 0
zeros_at zero t = refl
zeros_at (suc n) zero = refl
zeros_at (suc n) (suc t) = zeros_at n t

-- a list in front of zeros has its own entries
pub padded : (xs : List ℕ) (n t : ℕ) → get_or (xs ++ drop (length xs) (replicate n 0)) t 0 ≡ get_or xs t 0
padded [] n t = zeros_at n t
padded (x ∷ xs) zero t = ap (λ (ys : List ℕ). get_or ys t 0) (append-nil (x ∷ xs))
padded (x ∷ xs) (suc n) zero = refl
padded (x ∷ xs) (suc n) (suc t) = padded xs n t

-- a list of one entry throughout
pub constant_within : (n a m : ℕ) → a ≤ m → (t : ℕ) → get_or (replicate n a) t 0 ≤ m
constant_within zero a m h t = omega arith
constant_within (suc n) a m h zero = h
constant_within (suc n) a m h (suc t) = constant_within n a m h t

falls-on : (n a t : ℕ) → get_or (replicate n a) (suc t) 0 ≤ get_or (replicate n a) t 0
falls-on zero a t = omega arith
falls-on (suc n) a zero = constant_within n a a (omega arith) 0
falls-on (suc n) a (suc t) = falls-on n a t

pub constant_falls : (n a t : ℕ) → get_or (replicate n a) (t + 1) 0 ≤ get_or (replicate n a) t 0
constant_falls n a t = rw add-one (falls-on n a t)

-- one place more of a column that follows f
pub write_next : (f : ℕ → ℕ) (xs : List ℕ) (i v : ℕ) → i < length xs → ((k : ℕ) → k < i → get_or xs k 0 ≡ f k) → v ≡ f i → (k : ℕ) → k < i + 1 → get_or (set xs i v) k 0 ≡ f k
write_next f xs i v within before here =
    below_more (λ k. get_or (set xs i v) k 0 ≡ f k) i
    (λ k h. let ne : k ≢ i = omega arith in rw get_or-set_other (before k h))
    (rw get_or-set_same here)

-- past that place it is as it was
pub kept_beyond : (xs : List ℕ) (i v k : ℕ) → i + 1 ≤ k → get_or (set xs i v) k 0 ≡ get_or xs k 0
kept_beyond xs i v k h = let ne : k ≢ i = omega arith in rw get_or-set_other

pub column_long : (f : ℕ → ℕ) → length (column f) ≡ 121
unfolding column
column_long f = length-map-range_with_len f 0 121

pub column-at : (f : ℕ → ℕ) (t : ℕ) → t < 121 → get_or (column f) t 0 ≡ f t
unfolding column
column-at f t h = get_or-map-range_with_len f 0 121 t t 0 h (omega arith)

pub column_from : (f : ℕ → ℕ) (xs : List ℕ) → length xs ≡ 121 → ((k : ℕ) → k < 121 → get_or xs k 0 ≡ f k) → xs ≡ column f
unfolding column
column_from f xs long at = fill_by_all f xs 121 0 long at

-- what a closure gives at each place of a new array
module _ {A F : Type 0} (g : Mut F (ℕ × Unit {0}) A) (f : ℕ → A) (start : F) (d : A) (m : ℕ) (gives : (i : ℕ) → i < m → (y : A) (q : F) → Called g start (i, tt) y q → (y ≡ f i) × (q ≡ start)) where
  made_from : (ys : List A) (i n : ℕ) → i + n ≤ m → IsFromFnResultFrom g start ys i n → (k : ℕ) → k < n → get_or ys (i + k) d ≡ f (i + k)
  made_from ys i zero b _ k h = elim h [ ]
  made_from ys i (suc n) b (q, y, here, call, rest) zero h = let e = gives i (omega arith) y q call in rw add-zero (here.1 d ∙ e.0)
  made_from ys i (suc n) b (q, y, here, call, rest) (suc k) h =
      let e = gives i (omega arith) y q call in
      let next = subst (λ (p : F). IsFromFnResultFrom g p ys (i + 1) n) e.1 rest in
      let on : i + 1 + k ≡ i + suc k = omega arith in
      rw on at (made_from ys (i + 1) n (omega arith) next k (omega arith))

  pub made_each : (ys : List A) → IsFromFnResult g start ys m → (i : ℕ) → i < m → get_or ys i d ≡ f i
  made_each ys made i h = let e : 0 + i ≡ i = omega arith in rw e at (made_from ys 0 m (omega arith) made.each i h)

-- what a function gives at each year in turn
pub column_made : {F : Type 0} (g : Mut F (ℕ × Unit {0}) ℕ) (f : ℕ → ℕ) (start : F) → ((i : ℕ) (y : ℕ) (q : F) → Called g start (i, tt) y q → (y ≡ f i) × (q ≡ start)) → (ys : List ℕ) → IsFromFnResult g start ys 121 → ys ≡ column f
column_made g f start gives ys made = column_from f ys made.long (made_each g f start 0 121 (λ i h. gives i) ys made)

-- the column of counts that end by year 121 has them at every year
pub column-all : (f : ℕ → ℕ) → ((t : ℕ) → 121 ≤ t → f t ≡ 0) → (t : ℕ) → get_or (column f) t 0 ≡ f t
column-all f ends t =
    ⊎_elim (λ (h : t < 121). column-at f t h)
    (λ (h : 121 ≤ t). get_or_past (column f) t 0 (omega (arith, column_long f)) ∙ sym (ends t h))
    (cases_lt t 121)

-- and falls as they do
pub column-falls : (f : ℕ → ℕ) → ((t : ℕ) → 121 ≤ t → f t ≡ 0) → ((t : ℕ) → f (t + 1) ≤ f t) → (t : ℕ) → get_or (column f) (t + 1) 0 ≤ get_or (column f) t 0
column-falls f ends falls t = omega (arith, column-all f ends t, column-all f ends (t + 1), falls t)

-- an entry of a column that is held
pub held : (f : ℕ → ℕ) (xs : List ℕ) (t : ℕ) → xs ≡ column f → t < 121 → get_or xs t 0 ≡ f t
held f xs t e h = ap (λ (ys : List ℕ). get_or ys t 0) e ∙ column-at f t h

-- some years later: the column from there on, and 0 after it
pub column_later : (f : ℕ → ℕ) (xs : List ℕ) (by : ℕ) → by ≤ 121 → xs ≡ column f → ((t : ℕ) → 121 ≤ t → f t ≡ 0) → let ys = take (121 - by) (drop by xs) in ys ++ drop (length ys) (replicate 121 0) ≡ column (later f by)
column_later f xs by h e ends =
    let ys = take (121 - by) (drop by xs) in
    let zeros : List ℕ = replicate 121 0 in
    let all : length xs ≡ 121 = ap length e ∙ column_long f in
    let long : length ys ≡ 121 - by = length-take-le (121 - by) (drop by xs) (omega (arith, length-drop by xs)) in
    column_from (later f by) (ys ++ drop (length ys) zeros)
    (omega (arith, length-append ys (drop (length ys) zeros), length-drop (length ys) zeros, length-replicate {A = ℕ} 121 0))
    (λ k b. padded ys 121 k
    ∙ ⊎_elim
    (λ (under : k < 121 - by). get_or-take (121 - by) (drop by xs) k 0 under ∙ get_or-drop by xs k 0 ∙ held f xs (by + k) e (omega arith) ∙ ap f (omega arith))
    (λ (over : 121 - by ≤ k). get_or_past ys k 0 (omega arith) ∙ sym (ends (k + by) (omega arith)))
    (cases_lt k (121 - by)))

-- counts that never rise stay at 0
stays_ended : (f : ℕ → ℕ) (t : ℕ) → ((k : ℕ) → f (k + 1) ≤ f k) → f t ≡ 0 → (n : ℕ) → f (t + n) ≡ 0
stays_ended f t falls e zero = rw add-zero e
stays_ended f t falls e (suc n) = let h = falls (t + n) in let z = stays_ended f t falls e n in let s : f (t + n + 1) ≡ 0 = omega arith in rw (add-suc, ← add-one) s

pub ended_from : (f : ℕ → ℕ) (t : ℕ) → ((k : ℕ) → f (k + 1) ≤ f k) → f t ≡ 0 → (k : ℕ) → t ≤ k → f k ≡ 0
ended_from f t falls e k h = let m : t + (k - t) ≡ k = omega arith in rw m at (stays_ended f t falls e (k - t))
