use mathlib.Core.Path.{◌≡◌}
use Rattle.drawing.proofs.Climb.{before}
use Rattle.chart.specs.Charts.{drawn}
use Rattle.words.specs.Tables.{nth}
use Rattle.climb.proofs.way.Way.far_back.Given as goal

abbrev pub invariant-loop : goal.invariant-loop
invariant-loop l = l.v ≡ before (drawn l.self.chart) (nth l.self.into.now) l.e l.counter
