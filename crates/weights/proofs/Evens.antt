-- Where only the number of the named alive matters: the test, and the share by number.
use Rattle.std.proofs.Common.{◌≡◌, ℕ, zero, suc, ◌^◌, ◌<◌, ◌≤◌, Bool, true, false, cond, not, ◌&&◌, T, eqb, ◌≢◌, sym, refl, ap, ◌∙◌, subst, ap₂, arith, eq-eqb, ne_eqb}
use native.Mathlib.Decide.{ℕ_discrete}
use Rattle.std.proofs.lemmas.Bool.{eqb-true}
use Rattle.patterns.specs.Anys.{any_to}
use Rattle.patterns.specs.Patterns.{size, within, flags}
use Rattle.patterns.proofs.Anys.{any_found, any_none, any_each}
use Rattle.weights.specs.Numbers.{has_alive, OnlyNumber, differs, uneven, share_below, share_with}

-- ---- the test
same_none : (a w : Bool) (m n x y : ℕ) → (T a → T w → m ≡ n → x ≡ y) → a && ((w && eqb m n) && not (eqb x y)) ≡ false
same_none false w m n x y h = refl
same_none true false m n x y h = refl
same_none true true m n x y h = go (ℕ_discrete m n)
  where
    go : Dec (m ≡ n) → eqb m n && not (eqb x y) ≡ false
    go (yes e) = ap₂ ◌&&◌ (eq-eqb m n e) (ap not (eq-eqb x y (h tt tt e)))
    go (no e) = ap (λ (b : Bool). b && not (eqb x y)) (ne_eqb m n e)

pub only_even : (n : ℕ) (f : ℕ → ℕ) (N : ℕ) → OnlyNumber n f N → uneven n f N ≡ false
unfolding uneven
only_even n f N h =
    any_none _ (2 ^ n) (λ p i. any_none _ (2 ^ n) (λ q j. same_none (within (flags n p) (flags n N)) (within (flags n q) (flags n N)) (size (flags n q)) (size (flags n p)) (f p) (f q) (h p q i j)))

none-same : (a w : Bool) (m n x y : ℕ) → a && ((w && eqb m n) && not (eqb x y)) ≡ false → T a → T w → m ≡ n → x ≡ y
none-same false w m n x y e s t i = absurd s
none-same true false m n x y e s t i = absurd t
none-same true true m n x y e s t i = go (ℕ_discrete x y)
  where
    go : Dec (x ≡ y) → x ≡ y
    go (yes r) = r
    go (no r) = absurd (subst T (sym (ap₂ ◌&&◌ (eq-eqb m n i) (ap not (ne_eqb x y r))) ∙ e) tt)

pub even_only : (n : ℕ) (f : ℕ → ℕ) (N : ℕ) → uneven n f N ≡ false → OnlyNumber n f N
unfolding uneven
even_only n f N e p q i j =
    none-same (within (flags n p) (flags n N)) (within (flags n q) (flags n N)) (size (flags n q)) (size (flags n p)) (f p) (f q)
    (any_each _ (2 ^ n) (any_each (λ p'. any_to (2 ^ n) (λ q'. differs n f N p' q')) (2 ^ n) e p i) q j)

-- one such pair is enough
pub pair-uneven : (n : ℕ) (f : ℕ → ℕ) (N p q : ℕ) → p < 2 ^ n → q < 2 ^ n → differs n f N p q ≡ true → uneven n f N ≡ true
unfolding uneven
pair-uneven n f N p q i j e = any_found (λ p'. any_to (2 ^ n) (λ q'. differs n f N p' q')) (2 ^ n) p i (any_found (λ q'. differs n f N p q') (2 ^ n) q j e)

-- ---- the share with k alive is that of a pattern which has k alive
pub record Found (n : ℕ) (f : ℕ → ℕ) (N m k : ℕ) : Type 0 where
  pub at : ℕ
  pub low : at < m
  pub has : T (has_alive n N k at)
  pub is : share_below n f N m k ≡ f at

pub finds : (n : ℕ) (f : ℕ → ℕ) (N m k p : ℕ) → p < m → T (has_alive n N k p) → Found n f N m k
unfolding share_below
finds n f N zero k p h t = absurd (omega arith)
finds n f N (suc m) k p h t = go (has_alive n N k m) refl (λ q. finds n f N m k p q t)
  where
    go : (b : Bool) → has_alive n N k m ≡ b → (p < m → Found n f N m k) → Found n f N (suc m) k
    go true e rest = record { at = m; low = omega arith; has = subst T (sym e) tt; is = ap (λ (x : Bool). cond x (f m) (share_below n f N m k)) e }
    go false e rest =
        let ne : p ≢ m = λ q. subst T e (subst (λ (j : ℕ). T (has_alive n N k j)) q t) in
        let r = rest (omega arith) in
        record { at = r.at; low = omega (arith, r.low); has = r.has; is = ap (λ (x : Bool). cond x (f m) (share_below n f N m k)) e ∙ r.is }

pub share_le : (n : ℕ) (f : ℕ → ℕ) (N m k b : ℕ) → ((p : ℕ) → f p ≤ b) → share_below n f N m k ≤ b
unfolding share_below
share_le n f N zero k b h = omega arith
share_le n f N (suc m) k b h = go (has_alive n N k m) (share_le n f N m k b h)
  where
    go : (t : Bool) → share_below n f N m k ≤ b → cond t (f m) (share_below n f N m k) ≤ b
    go true r = h m
    go false r = r

-- ---- where they are even, it is the share of each pattern with k alive
true_of : (b : Bool) → T b → b ≡ true
true_of true t = refl
true_of false t = absurd t

parts : (a : Bool) (m k : ℕ) → T (a && eqb m k) → T a × (m ≡ k)
parts true m k t = (tt, eqb-true m k (true_of (eqb m k) t))
parts false m k t = absurd t

has : (a : Bool) (m : ℕ) → T a → T (a && eqb m m)
has true m t = subst T (sym (eq-eqb m m refl)) tt
has false m t = absurd t

pub even_with : (n : ℕ) (f : ℕ → ℕ) (N : ℕ) → uneven n f N ≡ false → (p : ℕ) → p < 2 ^ n → T (within (flags n p) (flags n N)) → f p ≡ share_with n f N (size (flags n p))
even_with n f N e p h t =
    let r = finds n f N (2 ^ n) (size (flags n p)) p h (has (within (flags n p) (flags n N)) (size (flags n p)) t) in
    let q = parts (within (flags n r.at) (flags n N)) (size (flags n r.at)) (size (flags n p)) r.has in
    even_only n f N e p r.at h r.low t q.0 q.1 ∙ sym r.is

-- ---- a pattern that has another share than that one shows that they are not
pub other_uneven : (n : ℕ) (f : ℕ → ℕ) (N p : ℕ) → p < 2 ^ n → within (flags n p) (flags n N) ≡ true → f p ≢ share_with n f N (size (flags n p)) → uneven n f N ≡ true
other_uneven n f N p h i d =
    let r = finds n f N (2 ^ n) (size (flags n p)) p h (has (within (flags n p) (flags n N)) (size (flags n p)) (subst T (sym i) tt)) in
    pair-uneven n f N p r.at h r.low
    (ap₂ ◌&&◌ i (ap₂ ◌&&◌ (true_of (has_alive n N (size (flags n p)) r.at) r.has) (ap not (ne_eqb (f p) (f r.at) (λ e. d (e ∙ sym r.is))))))

-- each pattern has that share: they are even
pub with_even : (n : ℕ) (f : ℕ → ℕ) (N : ℕ) (c : ℕ → ℕ) → ((p : ℕ) → p < 2 ^ n → T (within (flags n p) (flags n N)) → f p ≡ c (size (flags n p))) → uneven n f N ≡ false
with_even n f N c d = only_even n f N (λ p q i j s t e. d p i s ∙ ap c (sym e) ∙ sym (d q j t))
