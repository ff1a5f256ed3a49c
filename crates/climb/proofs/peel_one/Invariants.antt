use Rattle.drawing.specs.Drawing.{darts, after}
use Rattle.chart.specs.Charts.{drawn}
use Rattle.finite.proofs.Ahead.{ahead}
use Rattle.climb.proofs.Peels.{Around}
use Rattle.climb.proofs.peel_one.Given as goal

abbrev pub invariant-loop-e : goal.invariant-loop-e
invariant-loop-e l = Around (drawn l.chart) l.left l.list l.h l.count l.f l.c

abbrev pub decreases-loop-e : goal.decreases-loop-e
decreases-loop-e l = let g = drawn l.chart in ahead (darts g) (after g) l.f (after g l.c)
