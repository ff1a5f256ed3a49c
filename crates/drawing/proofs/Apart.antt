-- Yes excludes no: a drawing with a labelling has no cut. Assumes nothing.
--   labelling_no_cut
-- The idea: each source and sink of the cut has a large corner, in a face that it touches, and a face has as many large corners as room.
use mathlib.Core.Path.{◌≡◌, refl, subst}
use mathlib.Core.Logic.{◌≢◌, ◌⊎◌, inl, inr}
use mathlib.Core.Bool.{Bool, true, false, cond, ◌&&◌, ◌||◌}
use mathlib.Core.List.{List, [], ◌∷◌}
use Prim.Native.Nat.{ℕ, ◌+◌, ◌*◌, ◌%◌, ◌<◌, ◌≤◌}
use native.Mathlib.Nat.{mul-le-mul_right, mul_comm}
use native.Mathlib.Decide.{ℕ_discrete}
use native.Mathlib.Omega.{arith}
use lib.Dec.{T}
use lib.ListN.{length}
use Rattle.finite.specs.Sums.{bit, δ, class}
use Rattle.finite.specs.Lists.{All, Ascending}
use Rattle.finite.proofs.Sum.{sum_cong, sum_mono, sum-add, δ-eq, δ_other}
use Rattle.finite.proofs.Class.{hall}
use Rattle.drawing.specs.Drawing.{Drawing, darts, event, face, is_face, corner_face, room1, pole, touches}
use Rattle.drawing.specs.Conditions.{Rings, label, larges, Labelling, touched, Cut}
use Rattle.finite.proofs.Extra.{bit_yes, eqb_same, eqb_cases, or_left, or-bit, total, total_sum, total_miss}
use Rattle.drawing.proofs.Faces.{corner_into, corner_face_lem}
use Rattle.drawing.proofs.Labels.{large-room}
use Rattle.drawing.proofs.Signed.{larger_one}
use Rattle.drawing.proofs.Cuts.{touches_own}

-- a corner counts for at most one event of an ascending list, and then the list touches its face
corner_once : (g : Drawing) (k x : ℕ) (c : List ℕ) → k < darts g → Ascending c
    → total (λ v. δ (event g k) v * x) c ≤ bit (touched g c (corner_face g k)) * x
corner_once g k x [] h p = omega arith
corner_once g k x (v ∷ c) h p =
    elim (ℕ_discrete (event g k) v) [
      | yes e ↦
          let own : bit (touches g v (corner_face g k) || touched g c (corner_face g k)) ≡ 1 =
          (bit_yes (touches g v (corner_face g k) || touched g c (corner_face g k))).0 (or_left (touches g v (corner_face g k)) (touched g c (corner_face g k)) (subst (λ (u : ℕ). T (touches g u (corner_face g k))) e (touches_own g k h))) in
          rw (own, δ-eq (event g k) v e) (omega (arith, total_miss (event g k) x c (rw (← e) at p.0)))
      | no d ↦
          rw (δ_other (event g k) v d)
          (omega (arith, corner_once g k x c h p.1, mul-le-mul_right x (or-bit (touches g v (corner_face g k)) (touched g c (corner_face g k)))))
    ]

module _ (g : Drawing) (even : darts g % 2 ≡ 0) (R : Rings g) where
  pub labelling_no_cut : (l c : List ℕ) → Labelling g l → Cut g c → ⊥
  unfolding larges class
  labelling_no_cut l c L C =
      omega (
        arith,
        one_each c C.poles,
        total_sum D (λ v k. δ (event g k) v * large k) c,
        sum_mono D (λ k. total (λ v. δ (event g k) v * large k) c) (λ k. bit (touched g c (corner_face g k)) * large k) (λ k h. corner_once g k (large k) c h C.ascending),
        hall D D large (corner_face g) (class D (corner_face g) large) (λ k. bit (touched g c (corner_face g k)) * large k) (λ f. bit (q f)) (corner_into g even R) (λ f h. refl) inside,
        sum_cong D (λ f. cond (q f) (room1 g f) 0) (λ f. bit (q f) * class D (corner_face g) large f + bit (q f)) rooms,
        sum-add D (λ f. bit (q f) * class D (corner_face g) large f) (λ f. bit (q f)),
        (larger_one g c).0 C.larger,
      )
    where
      D : ℕ
      D = darts g

      large : ℕ → ℕ
      large k = δ (label l k) 2

      q : ℕ → Bool
      q f = is_face g f && touched g c f

      -- each event of the list has one large corner
      one_each : (u : List ℕ) → All (λ v. (v < g.events) × T (pole g v)) u → length u ≡ total (larges g l) u
      one_each [] p = refl
      one_each (v ∷ u) p = omega (arith, one_each u p.1, L.events v p.0.0, (bit_yes (pole g v)).0 p.0.1)

      inside : (k : ℕ) → k < D → bit (touched g c (corner_face g k)) * large k ≤ large k * bit (q (corner_face g k))
      inside k h = rw (eqb_same (face g (corner_face g k)) (corner_face g k) (corner_face_lem g even R k h)) (omega (arith, mul_comm (bit (touched g c (corner_face g k))) (large k)))

      rooms : (f : ℕ) → f < D → cond (q f) (room1 g f) 0 ≡ bit (q f) * class D (corner_face g) large f + bit (q f)
      rooms f h = go (eqb_cases (face g f) f) (touched g c f)
        where
          go : ((is_face g f ≡ true) × (face g f ≡ f)) ⊎ ((is_face g f ≡ false) × (face g f ≢ f)) → (b : Bool)
              → cond (is_face g f && b) (room1 g f) 0 ≡ bit (is_face g f && b) * class D (corner_face g) large f + bit (is_face g f && b)
          go (inl e) true = rw e.0 (omega (arith, large-room g even R l L f h e.1))
          go (inl e) false = rw e.0 (omega arith)
          go (inr e) b = rw e.0 (omega arith)
