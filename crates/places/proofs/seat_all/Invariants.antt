use Rattle.chart.specs.Charts.{drawn}
use Rattle.places.proofs.Turns.{Going}
use Rattle.places.proofs.seat_all.Given as goal

abbrev pub invariant-loop-e : goal.invariant-loop-e
invariant-loop-e l = Going (drawn l.chart) l.here l.poles l.first l.initial.spare l.large l.spare l.left l.e
