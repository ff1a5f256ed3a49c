use lib.ListN.{length}
use Rattle.chart.specs.Charts.{drawn}
use Rattle.climb.proofs.Backs.{Writing}
use Rattle.climb.proofs.way.Way.write_back.Given as goal

abbrev pub invariant-loop-i : goal.invariant-loop-i
invariant-loop-i l = Writing (drawn l.self.chart) l.self.into.now l.s (length l.initial.out) l.out l.i l.e
