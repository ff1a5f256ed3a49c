-- The successors of a drawing with one ring for each event are injective and onto. Assumes nothing.
--   Keeps g d, Kept g         the successor of d is a dart of d's event; so for every dart
use mathlib.Core.Path.{◌≡◌, refl, sym, ap, ◌∙◌}
use Prim.Native.Nat.{ℕ, zero, suc, ◌<◌}
use Rattle.finite.specs.Steps.{iter, Inj, Reach}
use Rattle.finite.proofs.Perm.{onto_inj}
use Rattle.finite.proofs.Orbit.{iter_into}
use Rattle.drawing.specs.Drawing.{Drawing, darts, event, after}
use Rattle.drawing.specs.Conditions.{Rings}

abbrev pub Keeps : Drawing → ℕ → Type 0
Keeps g d = (after g d < darts g) × (event g (after g d) ≡ event g d)

abbrev pub Kept : Drawing → Type 0
Kept g = (d : ℕ) → d < darts g → Keeps g d

module _ (g : Drawing) (K : Kept g) where
  pub goes_inside : (k d : ℕ) → d < darts g → iter (after g) k d < darts g
  goes_inside = iter_into (darts g) (after g) (λ d l. (K d l).0)

  pub goes_there : (k d : ℕ) → d < darts g → event g (iter (after g) k d) ≡ event g d
  unfolding iter
  goes_there zero d l = refl
  goes_there (suc k) d l = (K (iter (after g) k d) (goes_inside k d l)).1 ∙ goes_there k d l

module _ (g : Drawing) (R : Rings g) where
  pub rings_kept : Kept g
  rings_kept d l = (R.inside d l, R.stays d l)

  -- going round from the successor of e comes to e: the dart before it has e for its successor
  pub after_onto : (e : ℕ) → e < darts g → (d : ℕ) × (d < darts g) × (after g d ≡ e)
  unfolding iter
  after_onto e l = let t = R.meets (after g e) e (R.inside e l) l (R.stays e l) in last t.0 t.2
    where
      last : (k : ℕ) → iter (after g) k (after g e) ≡ e → (d : ℕ) × (d < darts g) × (after g d ≡ e)
      last zero q = (e, l, q)
      last (suc k) q = (iter (after g) k (after g e), goes_inside g rings_kept k (after g e) (R.inside e l), q)

  pub after_inj : Inj (darts g) (after g)
  after_inj = onto_inj (darts g) (after g) R.inside after_onto

  pub after_reach : (d e : ℕ) → d < darts g → e < darts g → event g d ≡ event g e → Reach (after g) d e
  after_reach d e k l q = let t = R.meets d e k l q in (t.0, t.2)

  -- what is reached round an event is of the event
  pub reach_stays : (d e : ℕ) → d < darts g → Reach (after g) d e → event g e ≡ event g d
  reach_stays d e l t = ap (event g) (sym t.1) ∙ goes_there g rings_kept t.0 d l
