-- The face walk is injective, and a face is known by its lowest dart. Assumes nothing.
use mathlib.Core.Path.{◌≡◌, sym, ap, ◌∙◌}
use mathlib.Core.Logic.{◌↔◌}
use Prim.Native.Nat.{ℕ, ◌%◌, ◌<◌}
use Rattle.finite.specs.Steps.{Into, Inj, Reach}
use Rattle.finite.proofs.Orbit.{lowest_same, lowest_step, lowest_into, lowest-lowest}
use Rattle.drawing.specs.Drawing.{Drawing, darts, event, after, twin, walk, face, corner_face}
use Rattle.drawing.specs.Conditions.{Rings}
use Rattle.drawing.proofs.Twins.{twin_into, twin_inj, twin-twin}
use Rattle.drawing.proofs.Rounds.{after_inj}

module _ (g : Drawing) (even : darts g % 2 ≡ 0) (R : Rings g) where
  pub walk_into : Into (darts g) (darts g) (walk g)
  walk_into d l = R.inside (twin d) (twin_into (darts g) even d l)

  pub walk_inj : Inj (darts g) (walk g)
  walk_inj i j k l q =
      twin_inj (darts g) i j k l (after_inj g R (twin i) (twin j) (twin_into (darts g) even i k) (twin_into (darts g) even j l) q)

  -- the walk along dart d comes to the event at d's other end
  pub walk-event : (d : ℕ) → d < darts g → event g (walk g d) ≡ event g (twin d)
  walk-event d l = R.stays (twin d) (twin_into (darts g) even d l)

  pub face_into : Into (darts g) (darts g) (face g)
  unfolding face
  face_into = lowest_into (darts g) (walk g) walk_inj walk_into

  -- the lowest dart of a face names the face
  pub face-face : (d : ℕ) → d < darts g → face g (face g d) ≡ face g d
  unfolding face
  face-face = lowest-lowest (darts g) (walk g) walk_inj walk_into

  pub face_step : (d : ℕ) → d < darts g → face g (walk g d) ≡ face g d
  unfolding face
  face_step = lowest_step (darts g) (walk g) walk_inj walk_into

  pub face_same : (d e : ℕ) → d < darts g → e < darts g → Reach (walk g) d e ↔ (face g d ≡ face g e)
  unfolding face
  face_same = lowest_same (darts g) (walk g) walk_inj walk_into

  -- the corner before a dart's walk lies in the dart's face
  pub corner_twin : (d : ℕ) → d < darts g → corner_face g (twin d) ≡ face g d
  corner_twin d l = face_step d l

  pub face-twin : (c : ℕ) → c < darts g → face g (twin c) ≡ corner_face g c
  face-twin c l = sym (face_step (twin c) (twin_into (darts g) even c l)) ∙ ap (λ (x : ℕ). face g (after g x)) (twin-twin c)

  pub corner_into : Into (darts g) (darts g) (corner_face g)
  corner_into c l = face_into (after g c) (R.inside c l)

  pub corner_face_lem : (c : ℕ) → c < darts g → face g (corner_face g c) ≡ corner_face g c
  corner_face_lem c l = face-face (after g c) (R.inside c l)
