use Rattle.drawing.proofs.Climb.{back}
use Rattle.chart.specs.Charts.{drawn}
use Rattle.words.specs.Tables.{nth}
use Rattle.finite.proofs.Ahead.{ahead}
use Rattle.climb.proofs.Backs.{Lowered}
use Rattle.climb.proofs.way.Way.lowest.Given as goal

abbrev pub invariant-loop-e : goal.invariant-loop-e
invariant-loop-e l = Lowered (drawn l.self.chart) l.self.into.now l.s l.c l.best

abbrev pub decreases-loop-e : goal.decreases-loop-e
decreases-loop-e l = let g = drawn l.self.chart in ahead g.events (back g (nth l.self.into.now)) l.s (back g (nth l.self.into.now) l.c)
