-- The route by counts answers the sum over all patterns, where the share is one of the number alive, for any number of seats.
use Rattle.std.proofs.Common.{◌≡◌, ℕ, zero, suc, ◌+◌, ◌*◌, ◌<◌, Bool, true, false, cond, eqb, List, [], ◌∷◌, length, ℤ, pos, ◌+ℤ◌, ◌-ℤ◌, ◌*ℤ◌, sym, refl, ap, ◌∙◌, ap₂, mul-zero, arith}
use lib.Dec.{eqb-zero-suc, eqb-suc-zero, eqb-suc-suc}
use lib.IntN.{*ℤ-zero, +ℤ_idr, +ℤ_assoc}
use Rattle.patterns.specs.Patterns.{size, all, below}
use Rattle.patterns.proofs.Integers as Int
use Rattle.patterns.proofs.Sums.{all_same, all_map, all_scale}
use Rattle.patterns.proofs.Loops.{first, below-same, below_scaleℤ, below_sumℤ, below_subℤ, below_zeroℤ}
use Rattle.weights.specs.declared.exposure.Exposure.{Exposure}
use Rattle.weights.specs.Exposures.{counted, standing, Sound}
use Rattle.weights.specs.Differences.{Δ}
use Rattle.weights.specs.Patterns.{times, by_patterns}
use Rattle.weights.specs.AllSeats.{by_counts, S}
use Rattle.weights.proofs.Forms.{patterns_cons}

-- ---- S_j, seat by seat
pub chosen : (b : Bool) (k x : ℕ) → cond b (k * x) 0 ≡ k * cond b x 0
chosen true k x = refl
chosen false k x = sym (mul-zero k)

pub S-none : (l : Exposure) (ls : List Exposure) → S (l ∷ ls) 0 ≡ l.present * S ls 0
unfolding S all times size
S-none l ls =
    ap₂ ◌+◌
    (all_same ◌+◌ (length ls) _ _ (λ J. chosen (eqb (size J) 0) l.present (times counted standing ls J)) ∙ all_scale (length ls) l.present (λ J. cond (eqb (size J) 0) (times counted standing ls J) 0))
    (all_same ◌+◌ (length ls) _ (λ J. 0) (λ J. ap (λ b. cond b (l.count * times counted standing ls J) 0) (eqb-suc-zero (size J))) ∙ all_map ◌+◌ ◌+◌ (λ x. 0) (λ a b. refl) (length ls) (λ J. 0))
    ∙ omega arith

pub S_more : (l : Exposure) (ls : List Exposure) (j : ℕ) → S (l ∷ ls) (suc j) ≡ l.present * S ls (suc j) + l.count * S ls j
unfolding S all times size
S_more l ls j =
    ap₂ ◌+◌
    (all_same ◌+◌ (length ls) _ _ (λ J. chosen (eqb (size J) (suc j)) l.present (times counted standing ls J)) ∙ all_scale (length ls) l.present (λ J. cond (eqb (size J) (suc j)) (times counted standing ls J) 0))
    (all_same ◌+◌ (length ls) _ _ (λ J. ap (λ b. cond b (l.count * times counted standing ls J) 0) (eqb-suc-suc (size J) j) ∙ chosen (eqb (size J) j) l.count (times counted standing ls J)) ∙ all_scale (length ls) l.count (λ J. cond (eqb (size J) j) (times counted standing ls J) 0))

-- ---- a difference from one place further is that of the shares from there
pub Δ-on : (j : ℕ) (c : ℕ → ℕ) (k : ℕ) → Δ j (λ i. c (suc i)) k ≡ Δ j c (suc k)
unfolding Δ
Δ-on zero c k = refl
Δ-on (suc j) c k = ap₂ ◌-ℤ◌ (Δ-on j c (suc k)) (Δ-on j c k)

Δ-one : (c : ℕ → ℕ) (j : ℕ) (s : ℤ) → Δ (suc j) c 0 *ℤ s ≡ Δ j (λ i. c (suc i)) 0 *ℤ s -ℤ Δ j c 0 *ℤ s
unfolding Δ
Δ-one c j s = Int.sub-mul (Δ j c 1) (Δ j c 0) s ∙ ap (λ d. d *ℤ s -ℤ Δ j c 0 *ℤ s) (sym (Δ-on j c 0))

pub S_past : (j : ℕ) → S [] (suc j) ≡ 0
unfolding S all size
S_past j = ap (λ b. cond b (times counted standing [] []) 0) (eqb-zero-suc j)

-- ---- the theorem, for any number of summands that is more than the seats
unfoldable pub route : List Exposure → (ℕ → ℕ) → ℕ → ℤ
route ls c m = below ◌+ℤ◌ (pos 0) m (λ j. Δ j c 0 *ℤ pos (S ls j))

step : (r a d s t : ℤ) → d *ℤ (r *ℤ s +ℤ a *ℤ t) ≡ r *ℤ (d *ℤ s) +ℤ a *ℤ (d *ℤ t)
step r a d s t = Int.mul-add d (r *ℤ s) (a *ℤ t) ∙ ap₂ ◌+ℤ◌ (Int.mul_left_comm d r s) (Int.mul_left_comm d a t)

route_cons : (l : Exposure) (ls : List Exposure) (c : ℕ → ℕ) (m : ℕ)
    → route (l ∷ ls) c (suc m) ≡ pos l.present *ℤ route ls c (suc m) +ℤ pos l.count *ℤ (route ls (λ i. c (suc i)) m -ℤ route ls c m)
unfolding route
route_cons l ls c m =
    let r = pos l.present in
    let a = pos l.count in
    let G : ℕ → ℤ = λ j. Δ j c 0 *ℤ pos (S ls j) in
    let G' : ℕ → ℤ = λ j. Δ j (λ i. c (suc i)) 0 *ℤ pos (S ls j) in
    let sum : (ℕ → ℤ) → ℤ = λ F. below ◌+ℤ◌ (pos 0) m F in
    let one : (j : ℕ) → Δ (suc j) c 0 *ℤ pos (S ls j) ≡ G' j -ℤ G j = λ j. Δ-one c j (pos (S ls j)) in
    first m (λ j. Δ j c 0 *ℤ pos (S (l ∷ ls) j))
    ∙ ap₂ ◌+ℤ◌
    (ap (λ (n : ℕ). Δ 0 c 0 *ℤ pos n) (S-none l ls) ∙ Int.mul_left_comm (Δ 0 c 0) r (pos (S ls 0)))
    (below-same ◌+ℤ◌ (pos 0) m _ _ (λ j. ap (λ (n : ℕ). Δ (suc j) c 0 *ℤ pos n) (S_more l ls j) ∙ step r a (Δ (suc j) c 0) (pos (S ls (suc j))) (pos (S ls j)) ∙ ap (λ z. r *ℤ G (suc j) +ℤ a *ℤ z) (one j))
    ∙ below_sumℤ m (λ j. r *ℤ G (suc j)) (λ j. a *ℤ (G' j -ℤ G j))
    ∙ ap₂ ◌+ℤ◌ (below_scaleℤ m r (λ j. G (suc j))) (below_scaleℤ m a (λ j. G' j -ℤ G j) ∙ ap (λ z. a *ℤ z) (below_subℤ m G' G)))
    ∙ sym (+ℤ_assoc (r *ℤ G 0) (r *ℤ sum (λ j. G (suc j))) (a *ℤ (sum G' -ℤ sum G)))
    ∙ ap (λ z. z +ℤ a *ℤ (sum G' -ℤ sum G)) (sym (Int.mul-add r (G 0) (sum (λ j. G (suc j)))) ∙ ap (λ z. r *ℤ z) (sym (first m G)))

pub counts_any : (ls : List Exposure) (c : ℕ → ℕ) (m : ℕ) → Sound ls → length ls < m → route ls c m ≡ pos (by_patterns ls (λ P. c (size P)))
unfolding route by_patterns times all size Δ S
counts_any [] c zero s h = absurd (omega arith)
counts_any [] c (suc m) s h =
    first m (λ j. Δ j c 0 *ℤ pos (S [] j))
    ∙ ap (λ z. Δ 0 c 0 *ℤ pos (S [] 0) +ℤ z) (below_zeroℤ m _ (λ j. ap (λ (n : ℕ). Δ (suc j) c 0 *ℤ pos n) (S_past j) ∙ *ℤ-zero (Δ (suc j) c 0)))
    ∙ +ℤ_idr (Δ 0 c 0 *ℤ pos (S [] 0))
counts_any (l ∷ ls) c zero s h = absurd (omega arith)
counts_any (l ∷ ls) c (suc m) s h =
    let x = by_patterns ls (λ P. c (size P)) in
    let y = by_patterns ls (λ P. c (suc (size P))) in
    let k : length ls < m = omega arith in
    let k' : length ls < suc m = omega arith in
    let e = counts_any ls c m (λ i. s (suc i)) k in
    let e' = counts_any ls c (suc m) (λ i. s (suc i)) k' in
    let e'' = counts_any ls (λ i. c (suc i)) m (λ i. s (suc i)) k in
    route_cons l ls c m
    ∙ ap₂ (λ u v. pos l.present *ℤ u +ℤ pos l.count *ℤ v) e' (ap₂ ◌-ℤ◌ e'' e)
    ∙ Int.apart (pos l.present) (pos l.count) (pos x) (pos y)
    ∙ ap (λ z. z *ℤ pos x +ℤ pos (l.count * y)) (sym (Int.pos_sub l.present l.count (s 0)))
    ∙ ap pos (sym (patterns_cons l ls (λ P. c (size P))))

pub counts : (ls : List Exposure) (c : ℕ → ℕ) → Sound ls → by_counts ls c ≡ pos (by_patterns ls (λ P. c (size P)))
unfolding route by_counts
counts ls c s = let h : length ls < suc (length ls) = omega arith in counts_any ls c (suc (length ls)) s h
