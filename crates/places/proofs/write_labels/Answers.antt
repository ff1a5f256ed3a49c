-- `places::write_labels` meets its contract: the places of the events below v are marked. Assumes nothing.
use native.Mathlib.Omega.{arith}
use Prim.Native.Nat.{◌<◌}
use Rattle.chart.specs.Charts.{drawn}
use Rattle.places.proofs.Marks.{raised_none, raised_place}
use Rattle.places.proofs.write_labels.Goals as goal
use Rattle.places.proofs.write_labels.Goals.{then-c-chart, else-c-chart}

pub loop-place-preserved : goal.loop-place-preserved
loop-place-preserved c =
    let p = c.requires in
    let S = c.args.chart.now.shape in
    let event : c.loop-place.place-index < (drawn c.args.chart.now).events = omega (arith, p.1) in
    elim c.if-c-chart.branch [
      | then-c-chart w ↦ raised_place _ _ p.3 _ _ c.loop-place.invariant event _ c.from-c.ensures (omega (arith, w.if-c-chart.true, S.darts)) _ w.labels-is
      | else-c-chart w ↦ rw w.labels-is (raised_none _ _ p.3 _ _ c.loop-place.invariant event _ c.from-c.ensures (omega (arith, w.if-c-chart.false, S.darts)))
    ]
