-- `faces::paint` meets its contract: the walk from d meets each dart of the face, and writes and counts the corner at its far end. Assumes nothing.
use native.Mathlib.Omega.{arith}
use Rattle.faces.proofs.Painting.{start, small, far, adds, far_in, few, step, falls, done, all-switches}
use Rattle.faces.proofs.paint.Goals as goal

pub loop-e-init : goal.loop-e-init
loop-e-init c = start c.args.chart.now.shape c.requires

pub twin-c-requires : goal.twin-c-requires
twin-c-requires c = omega (arith, small c.args.chart.now.shape c.requires _ _ _ c.loop-e.invariant, c.args.chart.now.shape.few)

pub put-requires : goal.put-requires
put-requires c = (omega (arith, c.twin-c.ensures, far_in c.args.chart.now.shape c.requires _ _ _ c.loop-e.invariant), c.requires.small)

pub next_of-e-requires : goal.next_of-e-requires
next_of-e-requires c = omega (arith, c.twin-c.ensures, far c.args.chart.now.shape c.requires _ _ _ c.loop-e.invariant)

pub overflow_add-count : goal.overflow_add-count
overflow_add-count c = omega (arith, few c.args.chart.now.shape c.requires _ _ _ c.loop-e.invariant, adds _ _ _ _ c.is_switch.ensures c.from-count.ensures, c.args.chart.now.shape.darts, c.args.chart.now.shape.few)

pub loop-e-smaller : goal.loop-e-smaller
loop-e-smaller c = falls c.args.chart.now.shape c.requires _ _ _ c.loop-e.invariant _ _ _ c.twin-c.ensures c.put.ensures c.next_of-e.ensures c.if-e-d.false

pub loop-e-preserved : goal.loop-e-preserved
loop-e-preserved c = step c.args.chart.now.shape c.requires _ _ _ c.loop-e.invariant _ _ _ c.twin-c.ensures c.put.ensures c.next_of-e.ensures c.if-e-d.false _ (adds _ _ _ _ c.is_switch.ensures c.from-count.ensures)

pub returns : goal.returns
returns c = (done c.args.chart.now.shape c.requires _ _ _ c.loop-e.invariant _ _ _ c.twin-c.ensures c.put.ensures c.next_of-e.ensures c.if-e-d.true, all-switches c.args.chart.now.shape c.requires _ _ _ c.loop-e.invariant _ _ _ c.twin-c.ensures c.put.ensures c.next_of-e.ensures c.if-e-d.true _ (adds _ _ _ _ c.is_switch.ensures c.from-count.ensures))
