use mathlib.Core.Path.{◌≡◌}
use Rattle.drawing.specs.Drawing.{darts, after}
use Rattle.chart.specs.Charts.{drawn}
use Rattle.finite.proofs.Ahead.{ahead}
use Rattle.climb.proofs.Changes.{Passed}
use Rattle.climb.proofs.changes_at.Given as goal

abbrev pub invariant-loop-e : goal.invariant-loop-e
invariant-loop-e l = Passed (drawn l.chart) l.d l.c l.count × (l.e ≡ after (drawn l.chart) l.c)

abbrev pub decreases-loop-e : goal.decreases-loop-e
decreases-loop-e l = let g = drawn l.chart in ahead (darts g) (after g) l.d (after g l.c)
