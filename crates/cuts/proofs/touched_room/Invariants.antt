use Rattle.chart.specs.Charts.{drawn}
use Rattle.cuts.specs.Sweep.{Swept}
use Rattle.cuts.proofs.touched_room.Given as goal

abbrev pub invariant-loop-c : goal.invariant-loop-c
invariant-loop-c l = Swept (drawn l.chart) l.here l.poles l.initial.spare l.c l.total l.spare
