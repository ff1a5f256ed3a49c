-- `cuts::touched_room` meets its contract: the rooms of the faces hit so far are out, and the sum of what is out and what is left stays (Swept). Assumes nothing.
use native.Mathlib.Omega.{arith}
use Rattle.cuts.proofs.Sweeping.{corner_in, start, step}
use Rattle.cuts.proofs.touched_room.Goals as goal

pub loop-c-init : goal.loop-c-init
loop-c-init c = start _ _ _ _ c.requires.keys

pub loop-c-preserved : goal.loop-c-preserved
loop-c-preserved c = step _ _ _ _ _ _ _ _ _ (corner_in c.requires _ (omega (arith, c.args.chart.now.shape.darts, c.loop-c-test.true))) c.loop-c.invariant c.take_room-total.ensures
