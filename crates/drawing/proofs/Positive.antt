-- Where no arrows form a circle, no face has room below 0. Assumes nothing.
--   face_circle          a face with no switch corner makes a circle
--   room1_some           so with no circle each face has room1 at least 1
--   room_not_negative    that is a room that is not negative
--   room-pos             room as a natural number
-- The idea: at a corner that is no switch the face walk keeps its direction. In a face with none it runs along all its arrows, or against all, up to
-- its first return.
use mathlib.Core.Path.{◌≡◌, refl, sym, ap, ◌∙◌}
use mathlib.Core.List.{List}
use Prim.Native.Nat.{ℕ, zero, suc, ◌+◌, ◌-◌, ◌/◌, ◌%◌, ◌<◌, ◌≤◌}
use native.Mathlib.Decide.{ℕ_discrete}
use native.Mathlib.Omega.{arith}
use lib.Dec.{leb-zero}
use lib.IntN.{pos}
use lib.Signed.{◌≤ℤ◌}
use Rattle.finite.specs.Steps.{iter, Inj}
use Rattle.finite.proofs.Orbit.{iter_into, round}
use Rattle.finite.proofs.Class.{class_term}
use Rattle.drawing.specs.Drawing.{Drawing, darts, event, twin, walk, enters, face, corner_face, switch, switches, room, room1}
use Rattle.drawing.specs.Conditions.{Rings, Circle, NoCircle}
use Rattle.finite.proofs.Extra.{pos_cancel}
use Rattle.drawing.proofs.Twins.{twin_into, twin-enters, even_dart, odd_dart}
use Rattle.drawing.proofs.Faces.{walk_into, walk_inj, walk-event, face_same, corner_twin}
use Rattle.drawing.proofs.Parity.{switches_even}
use Rattle.drawing.proofs.Signed.{room_one}
use Rattle.drawing.proofs.Circles.{back, back_circle}

module _ (g : Drawing) (even : darts g % 2 ≡ 0) (R : Rings g) where
  keeps : (d : ℕ) → d < darts g → switches g (face g d) ≡ 0 → enters (walk g d) ≡ enters d
  unfolding switches
  keeps d l z =
      omega (
        arith,
        class_term (darts g) (corner_face g) (switch g) (twin d) (twin_into (darts g) even d l),
        ap (switches g) (corner_twin g even R d l),
        twin-enters d,
      )

  pub face_circle : (d : ℕ) → d < darts g → switches g (face g d) ≡ 0 → (l : List ℕ) × Circle g l
  unfolding iter
  face_circle d l z = let t = round (darts g) (walk g) (walk_inj g even R) (walk_into g even R) d l in go t.0 t.1 t.2 t.3 (ℕ_discrete (enters d) 0)
    where
      x : ℕ → ℕ
      x k = iter (walk g) k d

      xl : (k : ℕ) → x k < darts g
      xl k = iter_into (darts g) (walk g) (walk_into g even R) k d l

      way : (k : ℕ) → enters (x k) ≡ enters d
      way zero = refl
      way (suc k) = keeps (x k) (xl k) (ap (switches g) (sym ((face_same g even R d (x k) l (xl k)).0 (k, refl))) ∙ z) ∙ way k

      go : (m : ℕ) → 0 < m → x m ≡ d → Inj m x → Dec (enters d ≡ 0) → (l : List ℕ) × Circle g l
      -- against the arrows, so the walk meets them from the circle's end
      go m some again once (no q) =
          let odd : (k : ℕ) → enters (x k) ≡ 1 = λ k. omega (arith, way k) in (
            back (λ k. x k / 2) m,
            back_circle g (λ k. x k / 2) (λ k. event g (x k)) m some
                (λ k h. omega (arith, xl k))
                (λ i j a b r. once i j a b (omega (arith, odd i, odd j)))
                (λ k h. ap (event g) (odd_dart (x k) (odd k)).1 ∙ sym (walk-event g even R (x k) (xl k)))
                (λ k h. ap (event g) (odd_dart (x k) (odd k)).0)
                (ap (event g) again),
          )
      -- along them
      go m some again once (yes q) =
          let out : (k : ℕ) → enters (x k) ≡ 0 = λ k. way k ∙ q in
          let y : ℕ → ℕ = λ k. x (m - suc k) in (
            back (λ k. y k / 2) m,
            back_circle g (λ k. y k / 2) (λ k. event g (x (m - k))) m some
                (λ k h. omega (arith, xl (m - suc k)))
                (λ i j a b r. let s : m - suc i ≡ m - suc j = once (m - suc i) (m - suc j) (omega arith) (omega arith) (omega (arith, out (m - suc i), out (m - suc j))) in omega arith)
                (λ k h. ap (event g) (even_dart (y k) (out (m - suc k))).0)
                (λ k h.
                let s : suc (m - suc k) ≡ m - k = omega arith in
                ap (event g) (even_dart (y k) (out (m - suc k))).1 ∙ sym (walk-event g even R (y k) (xl (m - suc k))) ∙ ap (λ (j : ℕ). event g (x j)) s)
                (
                let s : m - m ≡ 0 = omega arith in
                let o : m ≡ m - 0 = omega arith in
                ap (λ (j : ℕ). event g (x j)) s ∙ ap (event g) (sym again) ∙ ap (λ (j : ℕ). event g (x j)) o
                ),
          )

  module _ (none : NoCircle g) (f : ℕ) (l : f < darts g) (name : face g f ≡ f) where
    pub room1_some : 1 ≤ room1 g f
    unfolding room1
    room1_some =
        elim (ℕ_discrete (switches g f) 0) [
          | yes z ↦ let c = face_circle f l (ap (switches g) name ∙ z) in absurd (none c.0 c.1)
          | no d ↦ omega (arith, switches_even g even R f)
        ]

    pub room-pos : room g f ≡ pos (room1 g f - 1)
    room-pos = let e : room1 g f ≡ room1 g f - 1 + 1 = omega (arith, room1_some) in pos_cancel (room g f) 1 (room1 g f - 1) (room_one g f ∙ ap pos e)

    pub room_not_negative : pos 0 ≤ℤ room g f
    room_not_negative = rw room-pos (record { le = rw (leb-zero (room1 g f - 1)) tt })
