use Rattle.chart.specs.Charts.{drawn}
use Rattle.climb.proofs.Backs.{Looked}
use Rattle.climb.proofs.choose.Given as goal

abbrev pub invariant-loop-a : goal.invariant-loop-a
invariant-loop-a l = Looked (drawn l.chart) l.left l.into l.a l.e
