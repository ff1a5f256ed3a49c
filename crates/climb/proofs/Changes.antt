-- Once round an event: a weight summed over the ring is the weight of the event's darts. Assumes nothing.
--   Passed g d c total      going round from d, the corners before c have total changes of direction
use mathlib.Core.Path.{◌≡◌, refl, sym, ap, ◌∙◌}
use mathlib.Core.Logic.{◌≢◌}
use Prim.Native.Nat.{ℕ, suc, ◌+◌, ◌%◌, ◌<◌, ◌≤◌}
use native.Mathlib.Decide.{dec_lt}
use native.Mathlib.Numerals.{add-one}
use native.Mathlib.Omega.{arith}
use Rattle.finite.specs.Sums.{sum, class}
use Rattle.finite.specs.Steps.{iter, Inj}
use Rattle.finite.proofs.Sum.{sum_mono, sum_const, sum_prefix}
use Rattle.finite.proofs.Orbit.{iter_into, fresh_inj, round, cycle}
use Rattle.finite.proofs.Walk.{Walk, walk_start, walk_step, walk_few, walk_into}
use Rattle.drawing.specs.Drawing.{Drawing, darts, event, after, plain, changes}
use Rattle.drawing.specs.Conditions.{Rings}
use Rattle.drawing.proofs.Rounds.{after_inj, after_reach, reach_stays}
use Rattle.finite.proofs.Ahead.{ahead, orbit_nearer}
use Rattle.finite.proofs.Along.{along_class}

module _ (g : Drawing) (R : Rings g) (d : ℕ) (l : d < darts g) where
  abbrev x : ℕ → ℕ
  x j = iter (after g) j d

  whole : (w : ℕ → ℕ) (m : ℕ) → 0 < m → x m ≡ d → Inj m x → sum m (λ j. w (x j)) ≡ class (darts g) (event g) w (event g d)
  whole w m pos back once =
      along_class m (darts g) x (event g) w (event g d) (λ j h. iter_into (darts g) (after g) R.inside j d l) once
      (λ j h. reach_stays g R d (x j) l (j, refl))
      (λ e h q.
      let r = after_reach g R d e l h (sym q) in
      let t = cycle (after g) d m pos back r.0 in
      (t.0, t.1, sym t.2 ∙ r.1))

  pub ring_sum : (w : ℕ → ℕ) (k c : ℕ) → Walk (after g) d k c → after g c ≡ d → sum (suc k) (λ j. w (x j)) ≡ class (darts g) (event g) w (event g d)
  unfolding iter
  ring_sum w k c W back =
      let returns : x (suc k) ≡ d = ap (after g) (sym W.here) ∙ back in
      whole w (suc k) (omega arith) returns (fresh_inj (after g) d (suc k) returns (λ j a b. W.fresh j a (omega arith)))

  -- part of it, with the dart that the walk is at
  pub ring_part : (w : ℕ → ℕ) (k c : ℕ) → Walk (after g) d k c → sum k (λ j. w (x j)) + w c ≤ class (darts g) (event g) w (event g d)
  ring_part w k c W =
      let t = round (darts g) (after g) (after_inj g R) R.inside d l in
      elim (dec_lt k t.0) [
        | yes h ↦ omega (arith, sum_prefix k t.0 (λ j. w (x j)) h, ap w W.here, whole w t.0 t.1 t.2 t.3)
        | no h ↦ absurd (W.fresh t.0 t.1 (omega arith) t.2)
      ]

  -- a step of a ring's walk brings the return nearer
  pub ring_nearer : (k c : ℕ) → Walk (after g) d k c → after g c ≢ d → ahead (darts g) (after g) d (after g (after g c)) < ahead (darts g) (after g) d (after g c)
  ring_nearer k c W z = orbit_nearer (darts g) (after g) d c (after_inj g R) R.inside l (k, sym W.here) z

pub record Passed (g : Drawing) (d c total : ℕ) : Type 0 where
  pub steps : ℕ
  pub walk : Walk (after g) d steps c
  pub counted : total ≡ sum steps (λ j. plain g (iter (after g) j d))

pub start : (g : Drawing) (d : ℕ) → Passed g d d 0
unfolding sum
start g d = record { steps = 0; walk = walk_start (after g) d; counted = refl }

module _ (g : Drawing) (R : Rings g) (d c total : ℕ) (l : d < darts g) (P : Passed g d c total) where
  pub here : c < darts g
  here = walk_into (darts g) (after g) d P.steps c (after_inj g R) R.inside l P.walk

  pub few : total < darts g
  few =
      omega (
        arith,
        walk_few (darts g) (after g) d P.steps c (after_inj g R) R.inside l P.walk,
        P.counted,
        sum_mono P.steps (λ j. plain g (iter (after g) j d)) (λ j. 1) (λ j h. omega arith),
        sum_const P.steps 1,
      )

  -- the corner between c and e
  module _ (e : ℕ) (q : e ≡ after g c) where
    pub more : total + (c + e) % 2 ≡ sum (suc P.steps) (λ j. plain g (iter (after g) j d))
    unfolding sum
    more = omega (arith, P.counted, q, P.walk.here, ap (after g) P.walk.here)

    pub beyond : e < darts g
    beyond = rw q (R.inside c here)

    pub step : e ≢ d → Passed g d e (total + (c + e) % 2)
    step z = rw q (record {
      steps = P.steps + 1;
      walk = walk_step (after g) d P.steps c P.walk (λ r. z (q ∙ r));
      counted = rw (add-one, ← q) more;
    })

    pub nearer : e ≢ d → ahead (darts g) (after g) d (after g e) < ahead (darts g) (after g) d (after g c)
    nearer z = rw q (ring_nearer g R d l P.steps c P.walk (λ r. z (q ∙ r)))

    pub done : e ≡ d → total + (c + e) % 2 ≡ changes g (event g d)
    unfolding changes
    done z = more ∙ ring_sum g R d l (plain g) P.steps c P.walk (sym q ∙ z)
