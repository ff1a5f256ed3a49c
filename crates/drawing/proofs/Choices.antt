-- A choice of one corner for each source and sink that gives no face more than its room is a labelling. Assumes nothing.
--   pole-switch         the corners of a source or a sink are switches
--   fitted              large corners, one at each source and sink and none elsewhere, no face with more than its room: a labelling
--   Choice g choice     choice has a corner of its own for each source and sink, and no corner for any other event
--   load g choice f     how many corners of the face f are chosen
--   choice_event        each source and sink has one chosen corner, any other event none
--   choice_face         the chosen corners of a face, counted by corners and by events
--   choice_labelling    a choice that fits is a labelling
-- The idea: the rooms total the sources and sinks, so where all are placed and no face has more than its room, each face has exactly its room.
use mathlib.Core.Path.{◌≡◌, refl, sym, ap, ◌∙◌}
use mathlib.Core.Bool.{Bool, true, false}
use mathlib.Core.List.{List}
use Prim.Native.Nat.{ℕ, ◌+◌, ◌*◌, ◌%◌, ◌<◌, ◌≤◌}
use native.Mathlib.Nat.{mul-one, mul_comm, zero-mul, one-mul}
use native.Mathlib.Decide.{ℕ_discrete}
use native.Mathlib.Omega.{arith}
use lib.Dec.{T}
use lib.ListN.{length, get_or}
use Rattle.finite.specs.Sums.{bit, sum, δ, class}
use Rattle.finite.proofs.Sum.{sum_cong, sum_tight, sum-add, sum_pick, sum-zero, δ-eq, δ_same, δ_other}
use Rattle.finite.proofs.Class.{class_total, class_term, class_cong}
use Rattle.drawing.specs.Drawing.{Drawing, darts, event, face, faces, corner_face, plain, switch, room1, pole, changes}
use Rattle.drawing.specs.Conditions.{EventsKnown, OuterKnown, Rings, Planar, NoneMixed, Labelling}
use Rattle.drawing.proofs.Faces.{corner_into}
use Rattle.drawing.proofs.Parity.{no_changes}
use Rattle.drawing.proofs.Labels.{labelled}
use Rattle.drawing.proofs.Total.{no_corner, room1_total}

pub record Choice (g : Drawing) (choice : ℕ → ℕ) : Type 0 where
  pub own : (v : ℕ) → v < g.events → pole g v ≡ true → (choice v < darts g) × (event g (choice v) ≡ v)
  pub none : (v : ℕ) → v < g.events → pole g v ≡ false → darts g ≤ choice v

unfoldable pub load : Drawing → (ℕ → ℕ) → ℕ → ℕ
load g choice f = class g.events (λ v. corner_face g (choice v)) (λ v. bit (pole g v)) f

-- ---- chosen corners

module _ (g : Drawing) (choice : ℕ → ℕ) (C : Choice g choice) where
  -- a weight of an event's chosen corners
  chosen : (t : ℕ → ℕ) (v : ℕ) → v < g.events → class (darts g) (event g) (λ c. t c * δ (choice (event g c)) c) v ≡ bit (pole g v) * t (choice v)
  unfolding class
  chosen t v l =
      sum_cong (darts g) (λ c. δ (event g c) v * (t c * δ (choice (event g c)) c)) (λ c. δ (choice v) c * (δ (event g c) v * t c)) (λ c k. elim (ℕ_discrete (event g c) v) [
        | yes e ↦ rw (e, δ_same v) (omega (arith, mul_comm (t c) (δ (choice v) c)))
        | no d ↦ rw (δ_other (event g c) v d) (omega arith)
      ])
      ∙ go (pole g v) refl
    where
      go : (b : Bool) → pole g v ≡ b → sum (darts g) (λ c. δ (choice v) c * (δ (event g c) v * t c)) ≡ bit b * t (choice v)
      go true p =
          let o = C.own v l p in
          sum_pick (darts g) (λ c. δ (event g c) v * t c) (choice v) o.0 ∙ ap (λ (x : ℕ). x * t (choice v)) (δ-eq (event g (choice v)) v o.1)
      go false p =
          let o = C.none v l p in
          sum-zero (darts g) (λ c. δ (choice v) c * (δ (event g c) v * t c)) (λ c k. rw (δ_other (choice v) c (omega arith)) (zero-mul (δ (event g c) v * t c)))
          ∙ sym (zero-mul (t (choice v)))

  pub choice_event : (v : ℕ) → v < g.events → class (darts g) (event g) (λ c. δ (choice (event g c)) c) v ≡ bit (pole g v)
  choice_event v l =
      class_cong (darts g) (event g) (λ c. δ (choice (event g c)) c) (λ c. 1 * δ (choice (event g c)) c) v (λ c k e. sym (one-mul (δ (choice (event g c)) c)))
      ∙ chosen (λ c. 1) v l ∙ mul-one (bit (pole g v))

  pub choice_face : EventsKnown g → (f : ℕ) → class (darts g) (corner_face g) (λ c. δ (choice (event g c)) c) f ≡ load g choice f
  unfolding load class
  choice_face known f =
      sym (class_total (darts g) g.events (event g) (λ c. δ (corner_face g c) f * δ (choice (event g c)) c) known)
      ∙ sum_cong g.events (class (darts g) (event g) (λ c. δ (corner_face g c) f * δ (choice (event g c)) c)) (λ v. δ (corner_face g (choice v)) f * bit (pole g v))
      (λ v l. chosen (λ c. δ (corner_face g c) f) v l ∙ mul_comm (bit (pole g v)) (δ (corner_face g (choice v)) f))

-- ---- what fits is a labelling

module _ (g : Drawing) (even : darts g % 2 ≡ 0) (R : Rings g) where
  pub pole-switch : (c : ℕ) → c < darts g → bit (pole g (event g c)) ≤ switch g c
  unfolding changes
  pole-switch c l = go (pole g (event g c)) (no_changes g even R (event g c)).1
    where
      go : (b : Bool) → (T b → changes g (event g c) ≡ 0) → bit b ≤ switch g c
      go true h = omega (arith, h tt, class_term (darts g) (event g) (plain g) c l)
      go false h = omega arith

  module _ (known : EventsKnown g) (out : OuterKnown g) (planar : Planar g) (none : NoneMixed g) where
    pub fitted : (large : ℕ → ℕ) (l : List ℕ)
        → ((v : ℕ) → v < g.events → class (darts g) (event g) large v ≡ bit (pole g v))
        → ((f : ℕ) → f < darts g → face g f ≡ f → class (darts g) (corner_face g) large f < room1 g f)
        → length l ≡ darts g
        → ((c : ℕ) → c < darts g → get_or l c 0 ≡ 2 * large c + plain g c)
        → Labelling g l
    unfolding faces
    fitted large l each fits size has =
        labelled g even R out large l
        (λ c k. omega (arith, class_term D (event g) large c k, each (event g c) (known c k), pole-switch c k))
        each (λ f k e. omega (arith, full f k, δ-eq (face g f) f e)) size has
      where
        D : ℕ
        D = darts g

        in_face : ℕ → ℕ
        in_face = class D (corner_face g) large

        within : (f : ℕ) → f < D → in_face f + δ (face g f) f ≤ room1 g f
        within f k = elim (ℕ_discrete (face g f) f) [
          | yes e ↦ omega (arith, fits f k e, δ-eq (face g f) f e)
          | no d ↦ omega (arith, no_corner g even R large f d, δ_other (face g f) f d)
        ]

        total : sum D in_face ≡ sum g.events (λ v. bit (pole g v))
        total =
            class_total D D (corner_face g) large (corner_into g even R)
            ∙ sym (class_total D g.events (event g) large known)
            ∙ sum_cong g.events (class D (event g) large) (λ v. bit (pole g v)) each

        full : (f : ℕ) → f < D → in_face f + δ (face g f) f ≡ room1 g f
        full =
            sum_tight D (λ f. in_face f + δ (face g f) f) (room1 g) within
            (omega (arith, sum-add D in_face (λ f. δ (face g f) f), total, room1_total g even R known out planar none))

    pub choice_labelling : (choice : ℕ → ℕ) (l : List ℕ) → Choice g choice
        → ((f : ℕ) → f < darts g → face g f ≡ f → load g choice f < room1 g f)
        → length l ≡ darts g
        → ((c : ℕ) → c < darts g → get_or l c 0 ≡ 2 * δ (choice (event g c)) c + plain g c)
        → Labelling g l
    choice_labelling choice l C fits size has =
        fitted (λ c. δ (choice (event g c)) c) l (choice_event g choice C) (λ f k e. rw (choice_face g choice C known f) (fits f k e)) size has
