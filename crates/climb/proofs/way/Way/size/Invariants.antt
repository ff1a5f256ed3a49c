use Rattle.finite.proofs.Walk.{Walk}
use Rattle.drawing.proofs.Climb.{back}
use Rattle.chart.specs.Charts.{drawn}
use Rattle.words.specs.Tables.{nth}
use Rattle.finite.proofs.Ahead.{ahead}
use Rattle.climb.proofs.way.Way.size.Given as goal

abbrev pub invariant-loop-e : goal.invariant-loop-e
invariant-loop-e l = Walk (back (drawn l.self.chart) (nth l.self.into.now)) l.s l.k l.c

abbrev pub decreases-loop-e : goal.decreases-loop-e
decreases-loop-e l = let g = drawn l.self.chart in ahead g.events (back g (nth l.self.into.now)) l.s (back g (nth l.self.into.now) l.c)
