use Prim.Native.Nat.{◌*◌}
use Rattle.chart.specs.Charts.{drawn}
use Rattle.rings.proofs.Laws.{Steady}
use Rattle.rings.proofs.all_keep.Given as goal

abbrev pub invariant-loop-a : goal.invariant-loop-a
invariant-loop-a l = Steady (drawn l.chart) (2 * l.a) l.total
