-- Parity round faces and events. Assumes nothing.
--   switches_even    a face has an even number of switch corners
--   changes_even     going round an event, the direction changes an even number of times
--   pole_ends        no entering or no leaving arrow: a source or a sink
--   pole-none        both: neither
--   no_changes       the direction never changes exactly if the event is a source or a sink (an event with no dart is both)
--   event-count      an event that is not mixed changes direction twice, or is a source or a sink
-- The idea: round a closed walk the colour of a dart, leaving or entering, comes back, so it changes an even number of times. Along a face walk a
-- corner is a switch where the colour changes; round an event a corner is plain where it does.
use mathlib.Core.Path.{◌≡◌, refl, sym, ap, ap₂, ◌∙◌}
use mathlib.Core.Logic.{◌↔◌, ◌⊎◌, inl, inr}
use mathlib.Core.Bool.{◌||◌}
use Prim.Native.Nat.{ℕ, zero, suc, ◌+◌, ◌*◌, ◌%◌, ◌<◌, ◌≤◌}
use native.Mathlib.Nat.{eq-zero-or-pos}
use native.Mathlib.Omega.{arith}
use lib.Dec.{T, eqb, eqb-suc-zero}
use Rattle.finite.specs.Sums.{bit, sum, δ, class}
use Rattle.finite.specs.Steps.{iter}
use Rattle.finite.proofs.Sum.{sum_cong}
use Rattle.finite.proofs.Perm.{reindex}
use Rattle.finite.proofs.Even.{differs, even_changes}
use Rattle.finite.proofs.Orbit.{iter_into}
use Rattle.finite.proofs.Class.{class-zero, class_term, class_some}
use Rattle.drawing.specs.Drawing.{Drawing, darts, event, after, twin, walk, face, corner_face, enters, leaves, plain, switch, switches, entering, leaving, pole, changes}
use Rattle.drawing.specs.Conditions.{Rings}
use Rattle.finite.proofs.Extra.{bit_yes}
use Rattle.drawing.proofs.Twins.{twin_into, twin_inj, twin-enters}
use Rattle.drawing.proofs.Rounds.{after_inj, after_reach}
use Rattle.drawing.proofs.Faces.{walk_into, walk_inj, face_step, corner_twin}

-- ---- sources and sinks

ends : (a b : ℕ) → (a ≡ 0) ⊎ (b ≡ 0) → bit (eqb a 0 || eqb b 0) ≡ 1
ends zero b h = refl
ends (suc a) zero h = rw (eqb-suc-zero a)
ends (suc a) (suc b) (inl e) = absurd (omega arith)
ends (suc a) (suc b) (inr e) = absurd (omega arith)

neither : (a b : ℕ) → 0 < a → 0 < b → bit (eqb a 0 || eqb b 0) ≡ 0
neither zero b h k = absurd (omega arith)
neither (suc a) zero h k = absurd (omega arith)
neither (suc a) (suc b) h k = rw (eqb-suc-zero a, eqb-suc-zero b)

pub pole_ends : (g : Drawing) (v : ℕ) → (entering g v ≡ 0) ⊎ (leaving g v ≡ 0) → bit (pole g v) ≡ 1
pole_ends g v h = ends (entering g v) (leaving g v) h

pub pole-none : (g : Drawing) (v : ℕ) → 0 < entering g v → 0 < leaving g v → bit (pole g v) ≡ 0
pole-none g v h k = neither (entering g v) (leaving g v) h k

module _ (g : Drawing) (even : darts g % 2 ≡ 0) (R : Rings g) where
  -- ---- faces

  pub switches_even : (f : ℕ) → switches g f % 2 ≡ 0
  unfolding switches class
  switches_even f =
      let n : ℕ = darts g in
      let w : ℕ → ℕ = λ c. δ (corner_face g c) f * switch g c in
      let along : sum n (λ d. w (twin d)) ≡ sum n w = reindex n twin (twin_inj n) (twin_into n even) w in
      let each : (d : ℕ) → d < n → w (twin d) ≡ δ (face g d) f * differs d (walk g d) =
      λ d l. ap₂ (λ (x y : ℕ). δ x f * y) (corner_twin g even R d l) (turn d (enters (walk g d))) in
      let e : sum n (λ d. δ (face g d) f * differs d (walk g d)) % 2 ≡ 0 =
      even_changes n (walk g) (walk_inj g even R) (walk_into g even R) (λ d. δ (face g d) f) (λ d l. ap (λ (x : ℕ). δ x f) (face_step g even R d l)) in
      ap (λ (x : ℕ). x % 2) (sym along ∙ sum_cong n (λ d. w (twin d)) (λ d. δ (face g d) f * differs d (walk g d)) each) ∙ e
    where
      turn : (d x : ℕ) → (enters (twin d) + x + 1) % 2 ≡ (enters d + x) % 2
      turn d x = omega (arith, twin-enters d)

  -- ---- events

  pub changes_even : (v : ℕ) → changes g v % 2 ≡ 0
  unfolding changes class
  changes_even v =
      even_changes (darts g) (after g) (after_inj g R) R.inside (λ d. δ (event g d) v) (λ d l. ap (λ (x : ℕ). δ x v) (R.stays d l))

  -- with no change all darts of the event have one direction
  one_way : (v d e : ℕ) → changes g v ≡ 0 → d < darts g → e < darts g → event g d ≡ v → event g e ≡ v → enters d ≡ enters e
  unfolding iter changes
  one_way v d e z l m p q =
      let r = after_reach g R d e l m (p ∙ sym q) in
      let c : enters (iter (after g) r.0 d) ≡ enters d = (round r.0).1 in
      sym c ∙ ap (λ (x : ℕ). enters x) r.1
    where
      round : (k : ℕ) → (event g (iter (after g) k d) ≡ v) × (enters (iter (after g) k d) ≡ enters d)
      round zero = (p, refl)
      round (suc k) =
          let h = round k in
          let x : ℕ = iter (after g) k d in
          let xl : x < darts g = iter_into (darts g) (after g) R.inside k d l in
          let t : plain g x ≤ changes g (event g x) = class_term (darts g) (event g) (plain g) x xl in
          let u : changes g (event g x) ≡ 0 = ap (changes g) h.0 ∙ z in
          (R.stays x xl ∙ h.0, (let w : enters x ≡ enters d = h.1 in omega arith))

  -- with one direction there is no change
  way_one : (v k : ℕ) → ((d : ℕ) → d < darts g → event g d ≡ v → enters d ≡ k) → changes g v ≡ 0
  unfolding changes
  way_one v k h =
      class-zero (darts g) (event g) (plain g) v (λ c l e. omega (arith, h c l e, h (after g c) (R.inside c l) (R.stays c l ∙ e)))

  -- each event either is a source or a sink and has no change, or is neither and has some
  pub pole_cases : (v : ℕ) → ((bit (pole g v) ≡ 1) × (changes g v ≡ 0)) ⊎ ((bit (pole g v) ≡ 0) × (0 < changes g v))
  unfolding entering leaving
  pole_cases v = go (eq-zero-or-pos (entering g v)) (eq-zero-or-pos (leaving g v)) (eq-zero-or-pos (changes g v))
    where
      own : (w : ℕ → ℕ) → class (darts g) (event g) w v ≡ 0 → (c : ℕ) → c < darts g → event g c ≡ v → w c ≡ 0
      own w z c k q = omega (arith, class_term (darts g) (event g) w c k, ap (class (darts g) (event g) w) q)

      go : (entering g v ≡ 0) ⊎ (0 < entering g v) → (leaving g v ≡ 0) ⊎ (0 < leaving g v) → (changes g v ≡ 0) ⊎ (0 < changes g v)
          → ((bit (pole g v) ≡ 1) × (changes g v ≡ 0)) ⊎ ((bit (pole g v) ≡ 0) × (0 < changes g v))
      go (inl a) b z = inl (pole_ends g v (inl a), way_one v 0 (λ c k q. own (λ d. enters d) a c k q))
      go (inr a) (inl b) z = inl (pole_ends g v (inr b), way_one v 1 (λ c k q. omega (arith, own (λ d. leaves d) b c k q)))
      go (inr a) (inr b) (inr z) = inr (pole-none g v a b, z)
      go (inr a) (inr b) (inl z) =
          let s = class_some (darts g) (event g) (λ d. enters d) v a in
          let t = class_some (darts g) (event g) (λ d. leaves d) v b in
          let c : enters s.0 ≡ enters t.0 = one_way v s.0 t.0 z s.1 t.1 s.2.0 t.2.0 in
          let x : 0 < enters s.0 = s.2.1 in
          let y : 0 < leaves t.0 = t.2.1 in
          absurd (omega arith)

  pub no_changes : (v : ℕ) → (changes g v ≡ 0) ↔ T (pole g v)
  no_changes v = go (pole_cases v)
    where
      go : ((bit (pole g v) ≡ 1) × (changes g v ≡ 0)) ⊎ ((bit (pole g v) ≡ 0) × (0 < changes g v)) → (changes g v ≡ 0) ↔ T (pole g v)
      go (inl h) = (λ z. (bit_yes (pole g v)).1 h.0, λ t. h.1)
      go (inr h) = (λ z. absurd (omega (arith, h.1)), λ t. absurd (omega (arith, h.0, (bit_yes (pole g v)).0 t)))

  pub event-count : (v : ℕ) → changes g v ≤ 2 → changes g v + 2 * bit (pole g v) ≡ 2
  event-count v two = go (pole_cases v)
    where
      go : ((bit (pole g v) ≡ 1) × (changes g v ≡ 0)) ⊎ ((bit (pole g v) ≡ 0) × (0 < changes g v)) → changes g v + 2 * bit (pole g v) ≡ 2
      go (inl h) = omega (arith, h.0, h.1)
      go (inr h) = omega (arith, h.0, h.1, changes_even v)
