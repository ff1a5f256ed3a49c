use Rattle.chart.specs.Charts.{drawn}
use Rattle.faces.proofs.Looking.{Counted}
use Rattle.faces.proofs.face_walk.Given as goal

abbrev pub invariant-loop-d : goal.invariant-loop-d
invariant-loop-d l = Counted (drawn l.chart) l.d l.count l.here l.spare
