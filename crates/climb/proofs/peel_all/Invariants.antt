use Prim.Native.Nat.{◌-◌}
use Rattle.chart.specs.Charts.{drawn}
use Rattle.climb.specs.Peel.{Peeled}
use Rattle.climb.proofs.peel_all.Given as goal

abbrev pub invariant-loop-h : goal.invariant-loop-h
invariant-loop-h l = Peeled (drawn l.chart) l.left l.list l.h l.t

abbrev pub decreases-loop-h : goal.decreases-loop-h
decreases-loop-h l = (drawn l.chart).events - l.h
