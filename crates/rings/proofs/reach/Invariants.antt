use Prim.Native.Nat.{◌-◌}
use Rattle.chart.specs.Charts.{drawn}
use Rattle.rings.specs.Joining.{Lent}
use Rattle.rings.proofs.Reaching.{Closing}
use Rattle.rings.proofs.reach.Given as goal

abbrev pub invariant-loop-head : goal.invariant-loop-head
invariant-loop-head l = record {
  lent : Lent l.initial.found l.found;
  closing : Closing (drawn l.chart) l.found.first.now l.found.queue.now l.head l.found.end l.met;
}

abbrev pub decreases-loop-head : goal.decreases-loop-head
decreases-loop-head l = (drawn l.chart).events - l.head
