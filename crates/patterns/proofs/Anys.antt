-- Whether a test passes at a number below a bound.
use mathlib.Core.Path.{◌≡◌, refl, sym, ap, ap₂, ◌∙◌, subst}
use mathlib.Core.Bool.{Bool, true, false, cond}
use Prim.Native.Nat.{ℕ, zero, suc, ◌+◌, ◌<◌}
use native.Mathlib.Decide.{ℕ_discrete}
use native.Mathlib.Omega.{arith}
use native.Mathlib.Numerals.{add-one}
use lib.Dec.{T}
use Rattle.patterns.specs.Anys.{any_to}

module _ (test : ℕ → Bool) where
  pub any_found : (m i : ℕ) → i < m → test i ≡ true → any_to m test ≡ true
  unfolding any_to
  any_found zero i h e = absurd (omega arith)
  any_found (suc m) i h e = go (ℕ_discrete i m) (λ q. any_found m i q e)
    where
      always : (b : Bool) → any_to m test ≡ true → cond b true (any_to m test) ≡ true
      always true r = refl
      always false r = r

      go : Dec (i ≡ m) → (i < m → any_to m test ≡ true) → cond (test m) true (any_to m test) ≡ true
      go (yes q) rest = ap (λ (b : Bool). cond b true (any_to m test)) (ap test (sym q) ∙ e)
      go (no q) rest = always (test m) (rest (omega arith))

  pub any_empty : any_to 0 test ≡ false
  unfolding any_to
  any_empty = refl

  pub any_past : (m : ℕ) → any_to m test ≡ false → test m ≡ false → any_to (m + 1) test ≡ false
  unfolding any_to
  any_past m r e = ap (λ (j : ℕ). any_to j test) (add-one m) ∙ ap₂ (λ (b c : Bool). cond b true c) e r

  pub any_none : (m : ℕ) → ((i : ℕ) → i < m → test i ≡ false) → any_to m test ≡ false
  unfolding any_to
  any_none zero h = refl
  any_none (suc m) h = ap₂ (λ (b c : Bool). cond b true c) (h m (omega arith)) (any_none m (λ i q. h i (omega arith)))

  pub any_each : (m : ℕ) → any_to m test ≡ false → (i : ℕ) → i < m → test i ≡ false
  unfolding any_to
  any_each m e i h = go (test i) refl
    where
      go : (b : Bool) → test i ≡ b → test i ≡ false
      go true q = absurd (subst T (sym (any_found m i h q) ∙ e) tt)
      go false q = q
