use Rattle.placing.specs.Board.{hold}
use Rattle.chart.specs.Charts.{drawn}
use Rattle.places.proofs.Turns.{Searching}
use Rattle.places.proofs.settle.Given as goal

abbrev pub invariant-loop-e : goal.invariant-loop-e
invariant-loop-e l = Searching (drawn l.chart) l.here l.poles l.first (hold (drawn l.chart) l.here l.initial.large l.initial.spare) l.large l.spare l.rank l.via l.e
