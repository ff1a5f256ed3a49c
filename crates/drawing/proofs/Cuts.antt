-- What touches a face, and cuts from weights. Assumes nothing.
--   touches_own      an event touches the faces of its corners
--   touched_corner   a face that a list touches has a corner of an event of the list
--   cut_of           a set S of sources and sinks is a cut if it is larger than the room of any faces t that hold all its corners
use mathlib.Core.Path.{◌≡◌, refl, sym, ap, subst}
use mathlib.Core.Logic.{◌≢◌, ◌⊎◌, inl, inr}
use mathlib.Core.Bool.{Bool, true, false, cond, ◌&&◌, ◌||◌}
use mathlib.Core.List.{List, [], ◌∷◌}
use Prim.Native.Nat.{ℕ, ◌+◌, ◌*◌, ◌<◌, ◌≤◌}
use native.Mathlib.Nat.{mul-le-mul_right, one-mul}
use native.Mathlib.Omega.{arith}
use lib.Dec.{T, ltb→lt, lt→ltb}
use lib.ListN.{length}
use Rattle.finite.specs.Sums.{bit, sum, δ, class}
use Rattle.finite.specs.Lists.{All, Ascending}
use Rattle.finite.proofs.Sum.{δ_same, sum_mono, sum-add}
use Rattle.finite.proofs.Class.{class_term, class_some}
use Rattle.drawing.specs.Drawing.{Drawing, darts, event, face, is_face, corner_face, room1, pole, touches}
use Rattle.drawing.specs.Conditions.{touched, Cut}
use Rattle.finite.proofs.Extra.{eqb_cases, δ_some}
use Rattle.drawing.proofs.Signed.{larger_one}

module _ (g : Drawing) where
  pub touches_own : (c : ℕ) → c < darts g → T (touches g (event g c) (corner_face g c))
  unfolding touches
  touches_own c l =
      lt→ltb 0 (class (darts g) (event g) (λ d. δ (corner_face g d) (corner_face g c)) (event g c))
      (omega (arith, class_term (darts g) (event g) (λ d. δ (corner_face g d) (corner_face g c)) c l, δ_same (corner_face g c)))

  -- P is what the events of the list have
  pub touched_corner : (P : ℕ → Type 0) (l : List ℕ) (f : ℕ) → All P l → T (touched g l f)
      → (c : ℕ) × (c < darts g) × (P (event g c) × (corner_face g c ≡ f))
  unfolding touches
  touched_corner P [] f p t = absurd t
  touched_corner P (v ∷ l) f p t = go (touches g v f) refl t (touched_corner P l f p.1)
    where
      go : (b : Bool) → touches g v f ≡ b → T (b || touched g l f) → (T (touched g l f) → (c : ℕ) × (c < darts g) × (P (event g c) × (corner_face g c ≡ f)))
          → (c : ℕ) × (c < darts g) × (P (event g c) × (corner_face g c ≡ f))
      go true e u rest =
          let s = class_some (darts g) (event g) (λ c. δ (corner_face g c) f) v (ltb→lt 0 _ (rw e tt)) in
          (s.0, s.1, (subst P (sym s.2.0) p.0, δ_some (corner_face g s.0) f s.2.1))
      go false e u rest = rest u

  pub cut_of : (S t room : ℕ → ℕ) (l : List ℕ)
      → ((c : ℕ) → c < darts g → S (event g c) ≤ t (corner_face g c))
      → ((f : ℕ) → f < darts g → face g f ≡ f → room f + 1 ≡ room1 g f)
      → sum (darts g) (λ f. t f * room f) < sum g.events S
      → Ascending l
      → All (λ v. (v < g.events) × T (pole g v)) l
      → length l ≡ sum g.events S
      → All (λ v. S v ≡ 1) l
      → Cut g l
  cut_of S t room l touch rooms less ascending poles size of_s =
      record { ascending = ascending; poles = poles; larger = (larger_one g l).1 (omega (arith, most, sum-add (darts g) (λ f. t f * room f) (λ f. bit (q f)))) }
    where
      q : ℕ → Bool
      q f = is_face g f && touched g l f

      -- a face touched is of t
      held : (f : ℕ) → T (touched g l f) → room f ≤ t f * room f
      held f h =
          let c = touched_corner (λ v. S v ≡ 1) l f of_s h in
          let one : 1 ≤ t f = omega (arith, touch c.0 c.1, c.2.0, ap t c.2.1) in
          omega (arith, mul-le-mul_right (room f) one, one-mul (room f))

      each : (f : ℕ) → f < darts g → cond (q f) (room1 g f) 0 ≤ t f * room f + bit (q f)
      each f k = go (eqb_cases (face g f) f) (touched g l f) (held f)
        where
          go : ((is_face g f ≡ true) × (face g f ≡ f)) ⊎ ((is_face g f ≡ false) × (face g f ≢ f)) → (b : Bool) → (T b → room f ≤ t f * room f)
              → cond (is_face g f && b) (room1 g f) 0 ≤ t f * room f + bit (is_face g f && b)
          go (inl e) true h = rw e.0 (omega (arith, rooms f k e.1, h tt))
          go (inl e) false h = rw e.0 (omega arith)
          go (inr e) b h = rw e.0 (omega arith)

      most : sum (darts g) (λ f. cond (q f) (room1 g f) 0) ≤ sum (darts g) (λ f. t f * room f + bit (q f))
      most = sum_mono (darts g) (λ f. cond (q f) (room1 g f) 0) (λ f. t f * room f + bit (q f)) each
