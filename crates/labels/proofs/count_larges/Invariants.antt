use Rattle.chart.specs.Charts.{drawn}
use Rattle.labels.specs.Checks.{Counted}
use Rattle.labels.proofs.count_larges.Given as goal

abbrev pub invariant-loop-c : goal.invariant-loop-c
invariant-loop-c l = Counted (drawn l.chart) l.here l.body l.tally l.load l.c
