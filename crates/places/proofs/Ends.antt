-- The search as a whole: what it begins with, and that its two ends are a labelling and a cut. Assumes nothing.
use mathlib.Core.Path.{◌≡◌, refl, ap, ◌∙◌}
use mathlib.Core.Bool.{Bool, true, false}
use mathlib.Core.List.{List}
use Prim.Native.Nat.{ℕ, ◌≤◌, ◌<◌}
use native.Mathlib.Omega.{arith}
use lib.ListN.{length, get_or, replicate, length-replicate, get_or-replicate}
use Rattle.std.specs.Prelude.{Option, Some, None, is_some}
use Rattle.finite.specs.Sums.{bit}
use Rattle.finite.proofs.Sum.{sum_term, sum_mono, sum_const}
use Rattle.drawing.specs.Drawing.{faces, pole}
use Rattle.finite.proofs.Extra.{bit_yes}
use Rattle.rules.specs.Chart.{drawing}
use Rattle.words.specs.Tables.{nth}
use Rattle.chart.specs.Shape.{Shape}
use Rattle.placing.specs.Board.{Board}
use Rattle.placing.proofs.Labelled.{is_labelling}
use Rattle.placing.proofs.Writes.{is_cut}
use Rattle.places.specs.Found.{Ready, Found}
use Rattle.places.specs.Steps.{Begin, Rest, Labels}

module _ {s : List ℕ} {n : ℕ} {here poles first spare : List ℕ} (Z : Shape s n) (Y : Ready (drawing s) here poles first spare) where
  bits : (v : ℕ) → v < (drawing s).events → nth poles v ≤ 1
  bits v l = rw (Y.poled.each v l) (one (pole (drawing s) v))
    where
      one : (b : Bool) → bit b ≤ 1
      one true = omega arith
      one false = omega arith

  board : Board (drawing s) here
  board = record { even = omega (arith, Z.even, Z.darts); rings = Y.rings; known = Y.known; keyed = Y.keyed }

  -- no room is larger than all of them together, which is the number of sources and sinks
  few : (f : ℕ) → f < faces (drawing s) → nth spare f ≤ 6144
  few f l =
      omega (
        arith,
        sum_term (faces (drawing s)) (nth spare) f l,
        Y.total,
        sum_mono (drawing s).events (nth poles) (λ v. 1) bits,
        sum_const (drawing s).events 1,
        Z.events.1,
      )

  pub begin : {L : List ℕ} → L ≡ replicate (drawing s).events 65535 → Begin (drawing s) here poles first L spare
  begin {L} e = record {
    board = board;
    poled = Y.poled.size;
    firsts = Y.firsts;
    events = ap length e ∙ length-replicate (drawing s).events 65535;
    nobody = λ v l. omega (arith, ap (λ (l : List ℕ). get_or l v 0) e, get_or-replicate {A = ℕ} (drawing s).events v 65535 0 l, Z.few, Z.darts);
    keys = Y.roomed.size;
    at_most = Y.few;
    few = few;
  }

  module _ {L list : List ℕ} (labels₀ : List ℕ) where
    pub found_labels : {labels : List ℕ} (r : Option ℕ) → is_some r ≡ false → Rest (drawing s) here poles (nth spare) L list r → Labels (drawing s) L labels → Found (drawing s) labels₀ labels list r
    found_labels {labels} None q R W = is_labelling board R.ends Y.poled.each Y.outer Y.roomed.each Y.total labels W.size W.each
    found_labels (Some k) q R W = cc

    pub found_cut : (r : Option ℕ) → is_some r ≡ true → Rest (drawing s) here poles (nth spare) L list r → length list ≡ (drawing s).events → Found (drawing s) labels₀ labels₀ list r
    found_cut None q R e = cc
    found_cut (Some k) q R e =
        let C = R.ends in
        let within : k ≤ length list = omega (arith, C.listed.count, sum_mono (drawing s).events C.set (λ v. 1) C.bits, sum_const (drawing s).events 1) in
        (within, is_cut board C.crowd C.listed within Y.roomed.each (λ v h m. (bit_yes (pole (drawing s) v)).1 (omega (arith, C.of_poles v h m, Y.poled.each v h))), refl)
