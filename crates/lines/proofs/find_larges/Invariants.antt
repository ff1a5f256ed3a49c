use Rattle.chart.specs.Charts.{drawn}
use Rattle.lines.specs.Follow.{Noted}
use Rattle.lines.proofs.find_larges.Given as goal

abbrev pub invariant-loop-c : goal.invariant-loop-c
invariant-loop-c l = Noted (drawn l.chart) l.labels l.c l.large
