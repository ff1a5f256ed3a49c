-- The theorems of document 01, of drawings and then of charts, each cited from its proof. Assumes nothing.
--   switches_even         a face has an even number of switch corners
--   room_total            the room of all faces totals the number of sources and sinks (004, Lemma 1)
--   room_not_negative     past test 13 no room is negative
--   climbs                no arrows form a circle exactly if some numbering of the events climbs along every arrow
--   yes_excludes_no       no drawing has a labelling and a cut
--   yes_or_no             past test 13 every drawing has a labelling or a cut
--   cut_exactly           so there is a cut exactly if there is no labelling
--   chart-..              the same of the drawing in a chart
use mathlib.Core.Path.{◌≡◌}
use mathlib.Core.Logic.{◌↔◌, ◌⊎◌, ⊎_elim}
use mathlib.Core.List.{List, [], ◌∷◌, ◌++◌}
use Prim.Native.Nat.{ℕ, ◌%◌, ◌<◌}
use lib.IntN.{pos}
use lib.Signed.{◌≤ℤ◌}
use Rattle.drawing.specs.Drawing.{Drawing, darts, face, room, switches}
use Rattle.drawing.specs.Conditions.{NoCircle, Labelling, Drawable, Cut, RoomTotal}
use Rattle.drawing.proofs.Parity as parity
use Rattle.drawing.proofs.Total as total
use Rattle.drawing.proofs.Positive as positive
use Rattle.drawing.proofs.Climb.{Climbs, no_circle_climbs}
use Rattle.drawing.proofs.Apart.{labelling_no_cut}
use Rattle.rules.specs.Chart.{drawing}
use Rattle.rules.specs.Tests.{Given, faults, mixing, circle}
use Rattle.rules.proofs.Bytes.{darts_even}
use Rattle.rules.proofs.Chain.{given_first, given_parts}
use Rattle.chart.specs.Form.{form_tests}
use Rattle.chart.proofs.Form.{given_formed}
use Rattle.placing.proofs.Theorem as placing
use Rattle.survey.specs.Past.{order_tests, face_tests}
use Rattle.survey.proofs.Passing.{past_faces}
use Rattle.theorems.specs.Past.{Uncrossed, Unmixed, Uncircled, uncrossed_tests, unmixed_tests}

-- ---- drawings

module _ (g : Drawing) where
  -- "A face has an even number 2n of switch corners."
  pub switches_even : Uncrossed g → (f : ℕ) → switches g f % 2 ≡ 0
  switches_even p f = parity.switches_even g p.even p.rings f

  -- "For every chart past test 12, the room of all faces totals the number of sources and sinks (004, Lemma 1)."
  pub room_total : Unmixed g → RoomTotal g
  room_total p = let u = p.uncrossed in total.room_total g u.even u.rings u.known u.outer u.planar p.unmixed

  -- "an inner face with no switch corner has -1 (C7), which past test 13 can't occur"
  pub room_not_negative : Uncircled g → (f : ℕ) → f < darts g → face g f ≡ f → pos 0 ≤ℤ room g f
  room_not_negative p f l e = let u = p.unmixed.uncrossed in positive.room_not_negative g u.even u.rings p.free f l e

  -- a numbering of the events that climbs along every arrow rules out a circle, and where there is no circle there is one
  pub climbs : Uncrossed g → NoCircle g ↔ ((rank : ℕ → ℕ) × Climbs g rank)
  climbs p = no_circle_climbs g p.known

  -- a labelling excludes a cut
  pub yes_excludes_no : Uncrossed g → (l c : List ℕ) → Labelling g l → Cut g c → ⊥
  yes_excludes_no p l c = labelling_no_cut g p.even p.rings l c

  pub yes_or_no : Uncircled g → Drawable g ⊎ ((l : List ℕ) × Cut g l)
  yes_or_no p =
      let u = p.unmixed.uncrossed in
      placing.yes_or_no g u.even u.rings u.known u.outer u.planar p.unmixed.unmixed p.free

  -- "no labelling exists" exactly if a cut does
  pub cut_exactly : Uncircled g → (¬ Drawable g) ↔ ((l : List ℕ) × Cut g l)
  cut_exactly p = (
    λ none. ⊎_elim (λ (d : Drawable g). absurd (none d)) (λ (c : (l : List ℕ) × Cut g l). c) (yes_or_no p),
    λ c d. yes_excludes_no p.unmixed.uncrossed d.0 c.0 d.1 c.1,
  )

-- ---- charts

module _ (s : List ℕ) where
  -- what the tests passed leave
  pub chart_uncrossed : Given uncrossed_tests s 0 0 → Uncrossed (drawing s)
  chart_uncrossed g =
      let h = given_parts form_tests (order_tests ++ face_tests) s 0 g in
      let f = given_formed s h.0 in
      let t = given_parts order_tests face_tests s 0 h.1 in
      let r = past_faces s t.0 t.1 in
      record { even = darts_even s; known = f.known; own = f.own; outer = f.outer; rings = r.rings; joined = r.joined; planar = r.planar }

  pub chart_unmixed : Given unmixed_tests s 0 0 → Unmixed (drawing s)
  chart_unmixed g =
      let h = given_parts uncrossed_tests (mixing ∷ []) s 0 g in record { uncrossed = chart_uncrossed h.0; unmixed = (given_first mixing [] s 0 h.1).0 }

  pub chart_uncircled : Given faults s 0 0 → Uncircled (drawing s)
  chart_uncircled g =
      let h = given_parts unmixed_tests (circle ∷ []) s 0 g in record { unmixed = chart_unmixed h.0; free = (given_first circle [] s 0 h.1).0 }

  -- the theorems
  pub chart_room_total : Given unmixed_tests s 0 0 → RoomTotal (drawing s)
  chart_room_total g = room_total (drawing s) (chart_unmixed g)

  pub chart_room_not_negative : Given faults s 0 0 → (f : ℕ) → f < darts (drawing s) → face (drawing s) f ≡ f → pos 0 ≤ℤ room (drawing s) f
  chart_room_not_negative g = room_not_negative (drawing s) (chart_uncircled g)

  pub chart_yes_excludes_no : Given uncrossed_tests s 0 0 → (l c : List ℕ) → Labelling (drawing s) l → Cut (drawing s) c → ⊥
  chart_yes_excludes_no g = yes_excludes_no (drawing s) (chart_uncrossed g)

  pub chart_yes_or_no : Given faults s 0 0 → Drawable (drawing s) ⊎ ((l : List ℕ) × Cut (drawing s) l)
  chart_yes_or_no g = yes_or_no (drawing s) (chart_uncircled g)

  pub chart_cut_exactly : Given faults s 0 0 → (¬ Drawable (drawing s)) ↔ ((l : List ℕ) × Cut (drawing s) l)
  chart_cut_exactly g = cut_exactly (drawing s) (chart_uncircled g)
