use Rattle.drawing.specs.Drawing.{darts, after}
use Rattle.chart.specs.Charts.{drawn}
use Rattle.placing.proofs.Rounds.{to_go, Round}
use Rattle.search.proofs.room_near.Given as goal

abbrev pub invariant-loop-first : goal.invariant-loop-first
invariant-loop-first l = Round (drawn l.chart) l.first l.c

abbrev pub decreases-loop-first : goal.decreases-loop-first
decreases-loop-first l = let g = drawn l.chart in to_go (darts g) (after g) l.first l.c
