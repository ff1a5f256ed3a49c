-- `faces::face_walk` meets its contract: before dart d the faces below d are painted and counted. Assumes nothing.
use native.Mathlib.Omega.{arith}
use Rattle.faces.proofs.Looking.{none, count_few, one_more, all}
use Rattle.faces.proofs.face_walk.Goals as goal

pub loop-d-init : goal.loop-d-init
loop-d-init c = none _ _ _ _ c.args.chart.now.shape.darts c.requires.1

pub loop-d-preserved : goal.loop-d-preserved
loop-d-preserved c = one_more _ _ _ _ _ c.loop-d.invariant (omega (arith, c.args.chart.now.shape.darts, c.loop-d-test.true)) _ _ _ _ c.visit.ensures c.from-count.ensures

pub overflow_add-count : goal.overflow_add-count
overflow_add-count c = omega (arith, count_few _ _ _ _ _ (loop-d-preserved c), (loop-d-preserved c).within, c.args.chart.now.shape.few)

pub returns : goal.returns
returns c = all _ _ _ _ _ _ c.args.chart.now.shape c.requires.0 c.loop-d.invariant (omega arith)
