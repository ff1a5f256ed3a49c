-- What a chart past test 13 has: no room is negative, the rooms total the sources and sinks, and there are A + 2 - V faces. Assumes nothing.
use mathlib.Core.Path.{◌≡◌, ◌∙◌}
use mathlib.Core.List.{List}
use Prim.Native.Nat.{ℕ, ◌+◌, ◌-◌, ◌*◌, ◌/◌, ◌≤◌, ◌<◌}
use native.Mathlib.Omega.{arith}
use lib.ListN.{length, take}
use lib.Seq.{get_or-take, length-take-le}
use Rattle.finite.specs.Sums.{bit, sum}
use Rattle.finite.proofs.Sum.{sum_cong}
use Rattle.drawing.specs.Drawing.{Drawing, darts, face, faces, room1, pole}
use Rattle.drawing.proofs.Positive.{room1_some}
use Rattle.drawing.proofs.Total.{room1_total}
use Rattle.rules.specs.Chart.{drawing}
use Rattle.words.specs.Tables.{nth}
use Rattle.chart.specs.Held.{Keyed, Switched, Poled, Roomed}
use Rattle.chart.proofs.Keys.{rooms_sum}
use Rattle.rules.proofs.Bytes.{darts_even}
use Rattle.chart.specs.Shape.{Shape}
use Rattle.survey.specs.Past.{Clear}

-- the first k entries of a table that is lent: as many, and with the switch corners of the first k keys
pub part_length : (k : ℕ) (spare : List ℕ) → k ≤ length spare → length (take (k - 0) spare) ≡ k
part_length k spare few = let z : k - 0 ≡ k = omega arith in rw z (length-take-le k spare few)

pub part_switched : {g : Drawing} {here : List ℕ} (k : ℕ) (spare : List ℕ) → k ≤ length spare → Switched g here spare → Switched g here (take (k - 0) spare)
part_switched {here = here} k spare few S =
    let z : k - 0 ≡ k = omega arith in
    let e : length (take (k - 0) spare) ≡ k = part_length k spare few in
    record { each = λ c l i. get_or-take (k - 0) spare (nth here c) 0 (omega arith) ∙ S.each c l (omega arith) }

module _ (s : List ℕ) (C : Clear (drawing s)) where
  pub clear_rooms : (f : ℕ) → f < darts (drawing s) → face (drawing s) f ≡ f → 1 ≤ room1 (drawing s) f
  clear_rooms f l e = room1_some (drawing s) (darts_even s) C.past.rings C.free f l e

  -- as many places as there are sources and sinks to place
  pub clear_total : (here poles spare : List ℕ) → Keyed (drawing s) here → Poled (drawing s) poles → Roomed (drawing s) here spare → sum (faces (drawing s)) (nth spare) ≡ sum (drawing s).events (nth poles)
  clear_total here poles spare K P W =
      let g = drawing s in
      omega (
        arith,
        rooms_sum (darts_even s) C.past.rings K C.formed.outer (nth spare) W.each,
        room1_total g (darts_even s) C.past.rings C.formed.known C.formed.outer C.past.planar C.unmixed,
        sum_cong g.events (nth poles) (λ u. bit (pole g u)) P.each,
      )

  -- A + 2 - V faces, of a chart of two events or more
  pub clear_faces : (n : ℕ) → Shape s n → ((drawing s).events + faces (drawing s) ≡ n / 2 + 2) × (2 * faces (drawing s) ≤ n)
  clear_faces n S =
      let e : (drawing s).events + faces (drawing s) ≡ n / 2 + 2 = omega (arith, C.past.planar, S.darts) in
      (e, omega (arith, S.events.0, S.even))
