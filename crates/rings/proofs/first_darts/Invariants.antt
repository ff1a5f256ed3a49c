use Rattle.chart.specs.Charts.{drawn}
use Rattle.rings.proofs.Picks.{Stored}
use Rattle.rings.proofs.first_darts.Given as goal

abbrev pub invariant-loop-d : goal.invariant-loop-d
invariant-loop-d l = Stored (drawn l.chart) l.first l.d
