use Prim.Native.Nat.{◌*◌}
use Rattle.chart.specs.Charts.{drawn}
use Rattle.chart.proofs.Ends.{Apart}
use Rattle.chart.proofs.check_ends.Given as goal

abbrev pub invariant-loop-a : goal.invariant-loop-a
invariant-loop-a l = Apart (drawn l.chart) (2 * l.a)
