use Rattle.placing.proofs.Moves.{Moving}
use Rattle.chart.specs.Charts.{drawn}
use Rattle.search.proofs.shift.Given as goal

abbrev pub invariant-loop-u : goal.invariant-loop-u
invariant-loop-u l = Moving (drawn l.chart) l.here l.initial.large l.initial.spare l.u l.rank l.via l.large l.spare l.i

abbrev pub decreases-loop-u : goal.decreases-loop-u
decreases-loop-u l = l.i
