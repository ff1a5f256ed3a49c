use Rattle.chart.specs.Charts.{drawn}
use Rattle.places.specs.Steps.{Raised}
use Rattle.places.proofs.write_labels.Given as goal

abbrev pub invariant-loop-place : goal.invariant-loop-place
invariant-loop-place l = Raised (drawn l.chart) l.large l.labels l.place-index
