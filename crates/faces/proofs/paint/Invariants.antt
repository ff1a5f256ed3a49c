use Rattle.drawing.specs.Drawing.{darts, walk}
use Rattle.chart.specs.Charts.{drawn}
use Rattle.finite.proofs.Ahead.{ahead}
use Rattle.faces.proofs.Painting.{Painting}
use Rattle.faces.proofs.paint.Given as goal

abbrev pub invariant-loop-e : goal.invariant-loop-e
invariant-loop-e l = Painting (drawn l.chart) l.d l.x l.initial.here l.here l.e l.count

abbrev pub decreases-loop-e : goal.decreases-loop-e
decreases-loop-e l = ahead (darts (drawn l.chart)) (walk (drawn l.chart)) l.d (walk (drawn l.chart) l.e)
