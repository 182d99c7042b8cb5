-- The weight for a year from 1 on is the sum over the sets of those who may survive this year.
use Rattle.std.proofs.Common.{◌≡◌, ℕ, zero, suc, ◌+◌, ◌-◌, ◌*◌, ◌^◌, ◌≤◌, Bool, true, false, cond, ◌&&◌, leb, List, [], ◌∷◌, length, sym, refl, ap, ◌∙◌, ap₂, add-zero, one-mul, arith}
use lib.Dec.{leb-zero, leb-suc-suc}
use Rattle.patterns.specs.Patterns.{Pattern, number, flags, all, below}
use Rattle.patterns.proofs.Sums.{all_same, all_map, all_two, all_scale, add4}
use Rattle.patterns.proofs.Loops.{below-same}
use Rattle.patterns.proofs.Bridge.{bridgeℕ}
use Rattle.weights.specs.declared.exposure.Exposure.{Exposure}
use Rattle.weights.specs.Exposures.{lost}
use Rattle.weights.specs.Patterns.{by_patterns, kept}
use Rattle.weights.specs.Weights.{weight}
use Rattle.weights.proofs.Forms.{patterns_cons}
use Rattle.weights.proofs.Named.{weight-kept}
use Rattle.weights.proofs.Years.{Seen, living, failed, Orderly, Names, seen, after, can, deaths}

-- what the survivors J add
unfoldable adds : List Seen → (Pattern → ℕ) → Pattern → ℕ
adds ss f J = cond (can ss J) (deaths ss J * by_patterns (after ss J) f) 0

lost_cons : (ls : List Exposure) (f : Pattern → ℕ) → by_patterns (lost ∷ ls) f ≡ by_patterns ls (λ P. f (false ∷ P))
lost_cons ls f = patterns_cons lost ls f ∙ omega arith

-- ---- one more seat
-- it fails
dies : (b : Bool) (d o x : ℕ) → cond b ((d * o) * x) 0 ≡ d * cond b (o * x) 0
dies true d o x = omega arith
dies false d o x = omega arith

-- it survives
lives-on : (b : Bool) (u a o x y : ℕ) → cond b (o * (u * x + a * y)) 0 ≡ u * cond b (o * x) 0 + a * cond b (o * y) 0
lives-on true u a o x y = omega arith
lives-on false u a o x y = omega arith

survives : (a r₁ : ℕ) (b : Bool) (o x y : ℕ) → a ≤ r₁ → cond (leb 1 r₁ && b) (o * ((r₁ - a) * x + a * y)) 0 ≡ (r₁ - a) * cond b (o * x) 0 + a * cond b (o * y) 0
survives zero zero b o x y h = omega arith
survives (suc a) zero b o x y h = absurd (omega arith)
survives a (suc r) b o x y h =
    ap (λ t. cond (t && b) (o * ((suc r - a) * x + a * y)) 0) (leb-suc-suc 0 r ∙ leb-zero r) ∙ lives-on b (suc r - a) a o x y

whole : (p q s a x y : ℕ) → p + q ≡ s → p * x + (q * x + a * y) ≡ s * x + a * y
whole p q s a x y e = omega (arith, ap (λ (n : ℕ). n * x) e)

module _ (ss : List Seen) (f : Pattern → ℕ) where
  abbrev f₀ : Pattern → ℕ
  f₀ P = f (false ∷ P)

  abbrev f₁ : Pattern → ℕ
  f₁ P = f (true ∷ P)

  adds-failed : all ◌+◌ (suc (length ss)) (adds (failed ∷ ss) f) ≡ all ◌+◌ (length ss) (adds ss f₀)
  unfolding adds all after can deaths
  adds-failed =
      ap₂ ◌+◌
      (all_same ◌+◌ (length ss) _ (adds ss f₀) (λ J. ap (λ (k : ℕ). cond (can ss J) (deaths ss J * k) 0) (lost_cons (after ss J) f)))
      (all_map ◌+◌ ◌+◌ (λ x. 0) (λ a b. refl) (length ss) (λ J. 0))
      ∙ add-zero (all ◌+◌ (length ss) (adds ss f₀))

  adds_dead : (a r₁ r : ℕ) → all ◌+◌ (length ss) (λ J. adds (living a r₁ r ∷ ss) f (false ∷ J)) ≡ (r - r₁) * all ◌+◌ (length ss) (adds ss f₀)
  unfolding adds after can deaths
  adds_dead a r₁ r =
      all_same ◌+◌ (length ss) _ (λ J. (r - r₁) * adds ss f₀ J)
      (λ J. ap (λ (k : ℕ). cond (can ss J) (((r - r₁) * deaths ss J) * k) 0) (lost_cons (after ss J) f) ∙ dies (can ss J) (r - r₁) (deaths ss J) (by_patterns (after ss J) f₀))
      ∙ all_scale (length ss) (r - r₁) (adds ss f₀)

  adds-alive : (a r₁ r : ℕ) → a ≤ r₁
      → all ◌+◌ (length ss) (λ J. adds (living a r₁ r ∷ ss) f (true ∷ J)) ≡ (r₁ - a) * all ◌+◌ (length ss) (adds ss f₀) + a * all ◌+◌ (length ss) (adds ss f₁)
  unfolding adds after can deaths
  adds-alive a r₁ r h =
      all_same ◌+◌ (length ss) _ (λ J. (r₁ - a) * adds ss f₀ J + a * adds ss f₁ J)
      (λ J. ap (λ (k : ℕ). cond (leb 1 r₁ && can ss J) (deaths ss J * k) 0) (patterns_cons (record { count = a; present = r₁ }) (after ss J) f)
      ∙ survives a r₁ (can ss J) (deaths ss J) (by_patterns (after ss J) f₀) (by_patterns (after ss J) f₁) h)
      ∙ all_two ◌+◌ add4 (length ss) (λ J. (r₁ - a) * adds ss f₀ J) (λ J. a * adds ss f₁ J)
      ∙ ap₂ ◌+◌ (all_scale (length ss) (r₁ - a) (adds ss f₀)) (all_scale (length ss) a (adds ss f₁))

-- ---- all seats
survivors : (ss : List Seen) (f : Pattern → ℕ) → Orderly ss → by_patterns (seen ss) f ≡ all ◌+◌ (length ss) (adds ss f)
unfolding adds all seen after can deaths
survivors [] f o = sym (one-mul (by_patterns [] f))
survivors (failed ∷ ss) f o = lost_cons (seen ss) f ∙ survivors ss (λ P. f (false ∷ P)) o ∙ sym (adds-failed ss f)
survivors (living a r₁ r ∷ ss) f o =
    let h : a ≤ r₁ = o.0 in
    let e : (r - r₁) + (r₁ - a) ≡ r - a = omega arith in
    patterns_cons (record { count = a; present = r }) (seen ss) f
    ∙ ap₂ (λ u v. (r - a) * u + a * v) (survivors ss (λ P. f (false ∷ P)) o.2) (survivors ss (λ P. f (true ∷ P)) o.2)
    ∙ sym (ap₂ ◌+◌ (adds_dead ss f a r₁ r) (adds-alive ss f a r₁ r h) ∙ whole (r - r₁) (r₁ - a) (r - a) a _ _ e)

-- ---- with every living seat named
length_seen : (ss : List Seen) → length (seen ss) ≡ length ss
unfolding seen
length_seen [] = refl
length_seen (living a r₁ r ∷ ss) = ap suc (length_seen ss)
length_seen (failed ∷ ss) = ap suc (length_seen ss)

length-after : (ss : List Seen) (J : Pattern) → length (after ss J) ≡ length ss
unfolding after
length-after [] J = refl
length-after (s ∷ ss) [] = ap suc (length-after ss [])
length-after (living a r₁ r ∷ ss) (true ∷ J) = ap suc (length-after ss J)
length-after (living a r₁ r ∷ ss) (false ∷ J) = ap suc (length-after ss J)
length-after (failed ∷ ss) (j ∷ J) = ap suc (length-after ss J)

kept_seen : (N : Pattern) (ss : List Seen) → Names N ss → kept N (seen ss) ≡ seen ss
unfolding seen kept
kept_seen N [] h = refl
kept_seen [] (living a r₁ r ∷ ss) h = absurd h
kept_seen [] (failed ∷ ss) h = ap (λ xs. lost ∷ xs) (kept_seen [] ss h)
kept_seen (true ∷ N) (living a r₁ r ∷ ss) h = ap (λ xs. record { count = a; present = r } ∷ xs) (kept_seen N ss h)
kept_seen (true ∷ N) (failed ∷ ss) h = ap (λ xs. lost ∷ xs) (kept_seen N ss h)
kept_seen (false ∷ N) (living a r₁ r ∷ ss) h = absurd h
kept_seen (false ∷ N) (failed ∷ ss) h = ap (λ xs. lost ∷ xs) (kept_seen N ss h)

kept-after : (N : Pattern) (ss : List Seen) (J : Pattern) → Names N ss → kept N (after ss J) ≡ after ss J
unfolding after kept
kept-after N [] J h = refl
kept-after [] (living a r₁ r ∷ ss) J h = absurd h
kept-after [] (failed ∷ ss) [] h = ap (λ xs. lost ∷ xs) (kept-after [] ss [] h)
kept-after [] (failed ∷ ss) (j ∷ J) h = ap (λ xs. lost ∷ xs) (kept-after [] ss J h)
kept-after (true ∷ N) (s ∷ ss) [] h = ap (λ xs. lost ∷ xs) (kept-after N ss [] h)
kept-after (true ∷ N) (living a r₁ r ∷ ss) (true ∷ J) h = ap (λ xs. record { count = a; present = r₁ } ∷ xs) (kept-after N ss J h)
kept-after (true ∷ N) (living a r₁ r ∷ ss) (false ∷ J) h = ap (λ xs. lost ∷ xs) (kept-after N ss J h)
kept-after (true ∷ N) (failed ∷ ss) (j ∷ J) h = ap (λ xs. lost ∷ xs) (kept-after N ss J h)
kept-after (false ∷ N) (living a r₁ r ∷ ss) J h = absurd h
kept-after (false ∷ N) (failed ∷ ss) [] h = ap (λ xs. lost ∷ xs) (kept-after N ss [] h)
kept-after (false ∷ N) (failed ∷ ss) (j ∷ J) h = ap (λ xs. lost ∷ xs) (kept-after N ss J h)

-- the weight where nothing that is not named counts
weight_is : (ls : List Exposure) (N n : ℕ) (f : ℕ → ℕ) → length ls ≡ n → kept (flags n N) ls ≡ ls → weight ls N f ≡ by_patterns ls (λ P. f (number P))
weight_is ls N n f e k = sym (weight-kept ls N f) ∙ ap (λ (xs : List Exposure). by_patterns xs (λ P. f (number P))) (ap (λ (m : ℕ). kept (flags m N) ls) e ∙ k)

pub by_survivors : (ss : List Seen) (N : ℕ) (f : ℕ → ℕ) → Orderly ss → Names (flags (length ss) N) ss
    → weight (seen ss) N f
    ≡ below ◌+◌ 0 (2 ^ length ss) (λ j. cond (can ss (flags (length ss) j)) (deaths ss (flags (length ss) j) * weight (after ss (flags (length ss) j)) N f) 0)
unfolding adds
by_survivors ss N f o h =
    let n = length ss in
    let later = λ (j : ℕ). weight_is (after ss (flags n j)) N n f (length-after ss (flags n j)) (kept-after (flags n N) ss (flags n j) h) in
    weight_is (seen ss) N n f (length_seen ss) (kept_seen (flags n N) ss h)
    ∙ survivors ss (λ P. f (number P)) o
    ∙ sym (bridgeℕ n (λ p J. adds ss (λ P. f (number P)) J))
    ∙ below-same ◌+◌ 0 (2 ^ n) _ _ (λ j. ap (λ (w : ℕ). cond (can ss (flags n j)) (deaths ss (flags n j) * w) 0) (sym (later j)))
