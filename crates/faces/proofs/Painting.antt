-- The laws of a walk that writes x at each corner of the face d. Assumes nothing.
--   Painting g d x old new e count   the walk from d is at e, and the corners at the far ends of the darts before e have x, count of which are switches
use mathlib.Core.Path.{◌≡◌, refl, sym, ap, ◌∙◌}
use mathlib.Core.Logic.{◌≢◌}
use mathlib.Core.Bool.{Bool, true, false}
use mathlib.Core.List.{List}
use Prim.Native.Nat.{ℕ, suc, ◌+◌, ◌%◌, ◌<◌}
use native.Mathlib.Decide.{ℕ_discrete}
use native.Mathlib.Numerals.{add-one}
use native.Mathlib.Omega.{arith}
use lib.ListN.{length, set, length-set}
use lib.Seq.{get_or-set_same, get_or-set_other}
use Rattle.std.specs.Int.{from_bool}
use Rattle.finite.specs.Sums.{sum}
use Rattle.finite.specs.Says.{Says}
use Rattle.finite.specs.Steps.{iter, Reach}
use Rattle.finite.proofs.Sum.{sum_mono, sum_const}
use Rattle.finite.proofs.Orbit.{iter_into, fresh_inj}
use Rattle.finite.proofs.Along.{along_class}
use Rattle.finite.proofs.Walk.{Walk, walk_start, walk_step, walk_few, walk-all}
use Rattle.drawing.specs.Drawing.{Drawing, darts, after, twin, walk, corner_face, switch, switches}
use Rattle.drawing.specs.Conditions.{Rings}
use Rattle.rules.specs.Chart.{drawing}
use Rattle.rules.proofs.Bytes.{darts_even}
use Rattle.drawing.proofs.Twins.{twin_into, twin_inj, twin-twin}
use Rattle.drawing.proofs.Faces.{walk_into, walk_inj, face_same, face-twin, corner_twin}
use Rattle.chart.specs.Shape.{Shape}
use Rattle.words.specs.Tables.{nth}
use Rattle.faces.specs.Walked.{Paintable, Painted}
use Rattle.finite.proofs.Ahead.{ahead, orbit_nearer}

-- the first k corners of the walk have x, and the corners of other faces are as they were
pub record Traced (g : Drawing) (d x k : ℕ) (old new : List ℕ) : Type 0 where
  pub size : length new ≡ length old
  pub met : (i : ℕ) → i < k → nth new (twin (iter (walk g) i d)) ≡ x
  pub others : (c : ℕ) → c < darts g → corner_face g c ≢ d → nth new c ≡ nth old c

pub record Painting (g : Drawing) (d x : ℕ) (old new : List ℕ) (e count : ℕ) : Type 0 where
  pub steps : ℕ
  pub way : Walk (walk g) d steps e
  pub traced : Traced g d x steps old new
  pub counted : count ≡ sum steps (λ j. switch g (twin (iter (walk g) j d)))

-- what a corner adds to the count: 1 if both its darts leave or both enter, else 0
pub adds : (c e : ℕ) (r : Bool) (y : ℕ) → Says r (c % 2 ≡ e % 2) → y ≡ from_bool r → y ≡ (c % 2 + e % 2 + 1) % 2
adds c e true y h q = omega arith
adds c e false y h q = omega (arith, h)

module _ {s : List ℕ} {n d x : ℕ} {old : List ℕ} (S : Shape s n) (A : Paintable (drawing s) d x old) where
  abbrev g : Drawing
  g = drawing s

  abbrev even : darts g % 2 ≡ 0
  even = darts_even s

  abbrev R : Rings g
  R = A.rings

  pub start : Painting g d x old old d 0
  unfolding sum
  start = record {
    steps = 0;
    way = walk_start (walk g) d;
    traced = record { size = refl; met = λ i h. absurd (omega arith); others = λ c h q. refl };
    counted = refl;
  }

  module _ (new : List ℕ) (e count : ℕ) (P : Painting g d x old new e count) where
    reached : Reach (walk g) d e
    reached = (P.steps, sym P.way.here)

    inside : e < darts g
    inside = rw P.way.here (iter_into (darts g) (walk g) (walk_into g even R) P.steps d A.dart)

    pub small : e < n
    small = omega (arith, inside, S.darts)

    pub far : twin e < n
    far = omega (arith, twin_into (darts g) even e inside, S.darts)

    pub far_in : twin e < length new
    far_in = omega (arith, far, S.darts, A.size, P.traced.size)

    here : corner_face g (twin e) ≡ d
    here = corner_twin g even R e inside ∙ sym ((face_same g even R d e A.dart inside).0 reached) ∙ A.name

    more : Traced g d x (P.steps + 1) old (set new (twin e) x)
    more = record {
      size = length-set new (twin e) x ∙ P.traced.size;
      met = λ i h. elim (ℕ_discrete (twin (iter (walk g) i d)) (twin e)) [
        | yes q ↦ rw q (get_or-set_same new (twin e) x 0 far_in)
        | no q ↦ get_or-set_other new (twin e) (twin (iter (walk g) i d)) x 0 q ∙ P.traced.met i (before i h q)
      ];
      others = λ c h q. get_or-set_other new (twin e) c x 0 (λ t. q (ap (corner_face g) t ∙ here)) ∙ P.traced.others c h q;
    }
      where
        before : (i : ℕ) → i < P.steps + 1 → twin (iter (walk g) i d) ≢ twin e → i < P.steps
        before i h q = elim (ℕ_discrete i P.steps) [
          | yes t ↦ absurd (q (ap (λ (j : ℕ). twin (iter (walk g) j d)) t ∙ ap twin (sym P.way.here)))
          | no t ↦ omega arith
        ]

    pub few : count < darts g
    few =
        omega (
          arith,
          walk_few (darts g) (walk g) d P.steps e (walk_inj g even R) (walk_into g even R) A.dart P.way,
          P.counted,
          sum_mono P.steps (λ j. switch g (twin (iter (walk g) j d))) (λ j. 1) (λ j h. omega arith),
          sum_const P.steps 1,
        )

    -- the code has the twin as c, and then the list as new' and the next dart as e'
    module _ (c e' : ℕ) (new' : List ℕ) (twins : c ≡ twin e) (stored : new' ≡ set new c x) (goes : e' ≡ after g c) where
      next : e' ≡ walk g e
      next = goes ∙ ap (after g) twins

      kept : Traced g d x (P.steps + 1) old new'
      kept = rw (stored, twins) more

      -- one corner more is counted
      more_counted : (y : ℕ) → y ≡ (c % 2 + e' % 2 + 1) % 2 → count + y ≡ sum (suc P.steps) (λ j. switch g (twin (iter (walk g) j d)))
      unfolding sum
      more_counted y is =
          let at : y ≡ switch g (twin (iter (walk g) P.steps d)) = is ∙ rw (goes, twins, P.way.here) refl in
          omega (arith, P.counted)

      pub step : e' ≢ d → (y : ℕ) → y ≡ (c % 2 + e' % 2 + 1) % 2 → Painting g d x old new' e' (count + y)
      step q y is = record {
        steps = P.steps + 1;
        way = rw next (walk_step (walk g) d P.steps e P.way (λ r. q (next ∙ r)));
        traced = kept;
        counted = rw (add-one P.steps) (more_counted y is);
      }

      pub falls : e' ≢ d → ahead (darts g) (walk g) d (walk g e') < ahead (darts g) (walk g) d (walk g e)
      falls q = rw next (orbit_nearer (darts g) (walk g) d e (walk_inj g even R) (walk_into g even R) A.dart reached (λ r. q (next ∙ r)))

      -- each corner of the face is met once
      pub all-switches : e' ≡ d → (y : ℕ) → y ≡ (c % 2 + e' % 2 + 1) % 2 → count + y ≡ switches g d
      unfolding switches iter
      all-switches q y is =
          more_counted y is
          ∙ along_class (suc P.steps) (darts g) (λ j. twin (iter (walk g) j d)) (corner_face g) (switch g) d
          (λ j h. twin_into (darts g) even (iter (walk g) j d) (at j))
          (λ i j a b r. fresh_inj (walk g) d (suc P.steps) (ap (walk g) (sym P.way.here) ∙ sym next ∙ q) (λ j a b. P.way.fresh j a (omega arith)) i j a b
          (twin_inj (darts g) (iter (walk g) i d) (iter (walk g) j d) (at i) (at j) r))
          (λ j h. corner_twin g even R (iter (walk g) j d) (at j) ∙ sym ((face_same g even R d (iter (walk g) j d) A.dart (at j)).0 (j, refl)) ∙ A.name)
          (λ b h t.
          let r = (face_same g even R d (twin b) A.dart (twin_into (darts g) even b h)).1 (A.name ∙ sym t ∙ sym (face-twin g even R b h)) in
          let w = walk-all (walk g) d P.steps e P.way (sym next ∙ q) (twin b) r in
          (w.0, omega (arith, w.1), ap twin w.2 ∙ twin-twin b))
        where
          at : (j : ℕ) → iter (walk g) j d < darts g
          at j = iter_into (darts g) (walk g) (walk_into g even R) j d A.dart

      pub done : e' ≡ d → Painted g d x old new'
      done q = record {
        size = kept.size;
        inside = λ b h t.
            let r = (face_same g even R d (twin b) A.dart (twin_into (darts g) even b h)).1 (A.name ∙ sym t ∙ sym (face-twin g even R b h)) in
            let w = walk-all (walk g) d P.steps e P.way (sym next ∙ q) (twin b) r in
            ap (nth new') (sym (twin-twin b) ∙ ap twin (sym w.2)) ∙ kept.met w.0 (omega (arith, w.1));
        others = kept.others;
      }
