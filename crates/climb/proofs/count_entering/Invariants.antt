use Rattle.chart.specs.Charts.{drawn}
use Rattle.climb.proofs.Counts.{Tallied}
use Rattle.climb.proofs.count_entering.Given as goal

abbrev pub invariant-loop-a : goal.invariant-loop-a
invariant-loop-a l = Tallied (drawn l.chart) l.left l.a
