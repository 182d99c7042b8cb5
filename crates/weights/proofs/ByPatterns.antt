-- The sum over all patterns, one seat after another.
use Rattle.std.proofs.Common.{◌≡◌, ℕ, zero, suc, ◌+◌, ◌*◌, ◌/◌, ◌^◌, ◌<◌, ◌≤◌, true, false, List, [], ◌∷◌, ◌++◌, length, get_or, take, sym, refl, ap, ◌∙◌, subst, ap₂, ⊎_elim, mul_left_comm, add-one, arith}
use native.Mathlib.Nat as NatL
use Rattle.std.proofs.Math.ListN.{get_or-append}
use Rattle.std.proofs.Math.Seq.{get_or-append_seam}
use Rattle.std.proofs.lemmas.Bool.{cases_lt}
use Rattle.std.proofs.lemmas.List.{length_push, get_or_past}
use Rattle.patterns.specs.Patterns.{Pattern, all, number}
use Rattle.patterns.proofs.Sums.{all_scale, all_two, add4}
use Rattle.weights.specs.declared.exposure.Exposure.{Exposure}
use Rattle.weights.specs.Exposures.{counted, gone, seat_at, Sound, Present, D}
use Rattle.weights.specs.Patterns.{times, by_patterns}
use Rattle.weights.proofs.Forms.{patterns_cons, D_pos}
use Rattle.weights.specs.Patterns.{pair}

-- ---- patterns of a known length
pub number-below : (P : Pattern) (n : ℕ) → length P ≡ n → number P < 2 ^ n
unfolding number
number-below [] n e = subst (λ (k : ℕ). 0 < 2 ^ k) e (omega arith)
number-below (true ∷ P) n e = subst (λ (k : ℕ). number P * 2 + 1 < 2 ^ k) e (omega (arith, number-below P (length P) refl, NatL.pow-suc 2 (length P)))
number-below (false ∷ P) n e = subst (λ (k : ℕ). number P * 2 < 2 ^ k) e (omega (arith, number-below P (length P) refl, NatL.pow-suc 2 (length P)))

all_long : (n : ℕ) (F G : Pattern → ℕ) → ((P : Pattern) → length P ≡ n → F P ≡ G P) → all ◌+◌ n F ≡ all ◌+◌ n G
unfolding all
all_long zero F G h = h [] refl
all_long (suc n) F G h = ap₂ ◌+◌ (all_long n _ _ (λ P e. h (false ∷ P) (ap suc e))) (all_long n _ _ (λ P e. h (true ∷ P) (ap suc e)))

-- ---- one seat summed out
none_left : (f : Pattern → ℕ) → by_patterns [] f ≡ f []
unfolding by_patterns all times
none_left f = omega arith

ring : (g c h d s t u v : ℕ) → g * (h * s + d * t) + c * (h * u + d * v) ≡ h * (g * s + c * u) + d * (g * t + c * v)
ring g c h d s t u v = omega arith

-- the last seat apart
patterns_last : (xs : List Exposure) (x : Exposure) (f : Pattern → ℕ)
    → by_patterns (xs ++ (x ∷ [])) f ≡ gone x * by_patterns xs (λ P. f (P ++ (false ∷ []))) + x.count * by_patterns xs (λ P. f (P ++ (true ∷ [])))
patterns_last [] x f =
    patterns_cons x [] f
    ∙ ap₂ (λ (a b : ℕ). gone x * a + x.count * b)
    (none_left (λ P. f (false ∷ P)) ∙ sym (none_left (λ P. f (P ++ (false ∷ [])))))
    (none_left (λ P. f (true ∷ P)) ∙ sym (none_left (λ P. f (P ++ (true ∷ [])))))
patterns_last (y ∷ ys) x f =
    patterns_cons y (ys ++ (x ∷ [])) f
    ∙ ap₂ (λ (a b : ℕ). gone y * a + y.count * b) (patterns_last ys x (λ P. f (false ∷ P))) (patterns_last ys x (λ P. f (true ∷ P)))
    ∙ ring (gone y) y.count (gone x) x.count _ _ _ _
    ∙ sym (ap₂ (λ (a b : ℕ). gone x * a + x.count * b) (patterns_cons y ys (λ P. f (P ++ (false ∷ [])))) (patterns_cons y ys (λ P. f (P ++ (true ∷ [])))))

number_out : (P : Pattern) → number (P ++ (false ∷ [])) ≡ number P
unfolding number
number_out [] = refl
number_out (true ∷ P) = ap (λ (n : ℕ). n * 2 + 1) (number_out P)
number_out (false ∷ P) = ap (λ (n : ℕ). n * 2) (number_out P)

number_in : (P : Pattern) → number (P ++ (true ∷ [])) ≡ number P + 2 ^ length P
unfolding number
number_in [] = refl
number_in (true ∷ P) = ap (λ (n : ℕ). n * 2 + 1) (number_in P) ∙ omega (arith, NatL.pow-suc 2 (length P))
number_in (false ∷ P) = ap (λ (n : ℕ). n * 2) (number_in P) ∙ omega (arith, NatL.pow-suc 2 (length P))

both : (g a c b t : ℕ) → (g * a + c * b) * t ≡ g * (a * t) + c * (b * t)
both g a c b t = omega arith

summed : (xs : List Exposure) (x : Exposure) (before after : List ℕ) → ((p : ℕ) → p < 2 ^ length xs → get_or after p 0 ≡ pair x (2 ^ length xs) before p)
    → by_patterns xs (λ P. get_or after (number P) 0) ≡ by_patterns (xs ++ (x ∷ [])) (λ P. get_or before (number P) 0)
unfolding by_patterns
summed xs x before after h =
    let n = length xs in
    let low = λ (P : Pattern). get_or before (number (P ++ (false ∷ []))) 0 * times counted gone xs P in
    let high = λ (P : Pattern). get_or before (number (P ++ (true ∷ []))) 0 * times counted gone xs P in
    all_long n _ (λ P. gone x * low P + x.count * high P)
    (λ P e.
    ap (λ (k : ℕ). k * times counted gone xs P) (
    h (number P) (number-below P n e)
    ∙ ap₂ (λ (a b : ℕ). gone x * get_or before a 0 + x.count * get_or before b 0) (sym (number_out P)) (ap (λ (m : ℕ). number P + 2 ^ m) (sym e) ∙ sym (number_in P))
    )
    ∙ both (gone x) (get_or before (number (P ++ (false ∷ []))) 0) x.count (get_or before (number (P ++ (true ∷ []))) 0) (times counted gone xs P))
    ∙ all_two ◌+◌ add4 n (λ P. gone x * low P) (λ P. x.count * high P)
    ∙ ap₂ ◌+◌ (all_scale n (gone x) low) (all_scale n x.count high)
    ∙ sym (patterns_last xs x (λ P. get_or before (number P) 0))

-- ---- the product of the present counts
D_last : (xs : List Exposure) (x : Exposure) → D (xs ++ (x ∷ [])) ≡ x.present * D xs
unfolding D
D_last [] x = refl
D_last (y ∷ ys) x = ap (λ (d : ℕ). y.present * d) (D_last ys x) ∙ mul_left_comm y.present x.present (D ys)

-- ---- with these seats left: the sums are those of their patterns, and full is twenty times the product of the present counts summed out
pub record Left (xs : List Exposure) (shares : List ℕ) (left : List Exposure) (sums : List ℕ) (full : ℕ) : Type 0 where
  pub sound : Sound left
  pub present : Present left
  pub room : 2 ^ length left ≤ length sums
  pub value : by_patterns left (λ P. get_or sums (number P) 0) ≡ by_patterns xs (λ P. get_or shares (number P) 0)
  pub bound : (p : ℕ) → p < 2 ^ length left → get_or sums p 0 ≤ full
  pub product : full * D left ≡ 20 * D xs

within_pair : (g c r s t m : ℕ) → g + c ≡ r → s ≤ m → t ≤ m → g * s + c * t ≤ m * r
within_pair g c r s t m e p q = omega (arith, NatL.mul-le-mul_left g p, NatL.mul-le-mul_left c q, ap (λ (k : ℕ). k * m) e)

module _ {xs : List Exposure} {shares : List ℕ} {left : List Exposure} {sums : List ℕ} {full : ℕ} (l : Left xs shares left sums full) (others : List Exposure) (last : Exposure) (e : left ≡ others ++ (last ∷ [])) where
  last_at : seat_at left (length others) ≡ last
  last_at = ap (λ (ys : List Exposure). seat_at ys (length others)) e ∙ get_or-append_seam others last [] _

  other_at : (i : ℕ) → i < length others → seat_at left i ≡ seat_at others i
  other_at i h = ap (λ (ys : List Exposure). seat_at ys i) e ∙ get_or-append others (last ∷ []) _ i h

  long : length left ≡ suc (length others)
  long = ap length e ∙ length_push others last ∙ add-one (length others)

  twice : 2 ^ length left ≡ 2 ^ length others * 2
  twice = ap (λ (n : ℕ). 2 ^ n) long ∙ NatL.pow-suc 2 (length others)

  pub last_sound : last.count ≤ last.present
  last_sound = subst (λ (x : Exposure). x.count ≤ x.present) last_at (l.sound (length others))

  others_sound : Sound others
  others_sound i = ⊎_elim
      (λ h. subst (λ (x : Exposure). x.count ≤ x.present) (other_at i h) (l.sound i))
      (λ h. subst (λ (x : Exposure). x.count ≤ x.present) (sym (get_or_past others i _ h)) (omega arith))
      (cases_lt i (length others))

  others_present : Present others
  others_present i h = subst (λ (x : Exposure). 1 ≤ x.present) (other_at i h) (l.present i (omega (arith, long)))

  product_next : full * last.present * D others ≡ 20 * D xs
  product_next = NatL.mul_assoc full last.present (D others) ∙ sym (ap (λ (d : ℕ). full * d) (ap D e ∙ D_last others last)) ∙ l.product

  -- how large the next full can be
  pub full_small : full * last.present ≤ 20 * D xs
  full_small = omega (arith, product_next, NatL.mul-le-mul_left (full * last.present) (D_pos others others_present))

  pub pairs_fit : 2 ^ length others * 2 ≤ length sums
  pairs_fit = omega (arith, twice, l.room)

  pub small : (p : ℕ) → p < 2 ^ length others * 2 → get_or sums p 0 * last.present ≤ 20 * D xs
  small p q = NatL.le_trans (NatL.mul-le-mul_right last.present (l.bound p (omega (arith, twice)))) full_small

  pub left_next : (after : List ℕ) → length after ≡ length sums → ((p : ℕ) → p < 2 ^ length others → get_or after p 0 ≡ pair last (2 ^ length others) sums p)
      → Left xs shares others after (full * last.present)
  left_next after same h = record {
    sound = others_sound;
    present = others_present;
    room = omega (arith, pairs_fit);
    value = summed others last sums after h ∙ sym (ap (λ (ys : List Exposure). by_patterns ys (λ P. get_or sums (number P) 0)) e) ∙ l.value;
    bound = λ p q. NatL.le_trans (NatL.le_of_eq (h p q)) (within_pair (gone last) last.count last.present _ _ full (omega (arith, last_sound)) (l.bound p (omega (arith, twice))) (l.bound (p + 2 ^ length others) (omega (arith, twice))));
    product = product_next;
  }

pub left_first : (xs : List Exposure) (shares : List ℕ) → Sound xs → Present xs → length shares ≡ 2 ^ length xs → ((p : ℕ) → get_or shares p 0 ≤ 20) → Left xs shares xs shares 20
left_first xs shares s q e h = record { sound = s; present = q; room = omega arith; value = refl; bound = λ p r. h p; product = refl }

D-none : D [] ≡ 1
unfolding D
D-none = refl

pub record Done (xs : List Exposure) (shares : List ℕ) (weight full : ℕ) : Type 0 where
  pub value : weight ≡ by_patterns xs (λ P. get_or shares (number P) 0)
  pub product : full ≡ 20 * D xs
  pub part : weight ≤ full

pub all_done : {xs : List Exposure} {shares : List ℕ} {sums : List ℕ} {full : ℕ} → Left xs shares [] sums full → Done xs shares (get_or sums 0 0) full
unfolding number
all_done {xs} {shares} {sums} {full} l = record {
  value = sym (none_left (λ P. get_or sums (number P) 0)) ∙ l.value;
  product = sym (NatL.mul-one full) ∙ sym (ap (λ (d : ℕ). full * d) D-none) ∙ l.product;
  part = l.bound 0 (omega arith);
}
