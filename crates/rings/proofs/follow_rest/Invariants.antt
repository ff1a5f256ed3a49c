use Prim.Native.Nat.{◌≤◌}
use Rattle.chart.specs.Charts.{drawn}
use Rattle.rings.specs.Joining.{Gone}
use Rattle.rings.proofs.follow_rest.Given as goal

abbrev pub invariant-loop-v : goal.invariant-loop-v
invariant-loop-v l = (l.met ≤ l.chart.darts) × Gone (drawn l.chart) l.first l.v l.met
