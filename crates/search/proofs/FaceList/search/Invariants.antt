use Prim.Native.Nat.{◌-◌}
use Rattle.drawing.specs.Drawing.{event}
use Rattle.chart.specs.Charts.{drawn}
use Rattle.placing.specs.Search.{Search}
use Rattle.search.specs.Lists.{Same}
use Rattle.search.proofs.FaceList.search.Given as goal

abbrev pub invariant-loop-h : goal.invariant-loop-h
invariant-loop-h l = record {
  search : Search (drawn l.seating.chart) l.seating.here.now l.seating.large.now l.seating.spare.now (event (drawn l.seating.chart) l.first) l.self.rank.now l.self.via.now l.h l.self.end;
  same : Same l.fn.self l.self;
}

abbrev pub decreases-loop-h : goal.decreases-loop-h
decreases-loop-h l = l.seating.chart.darts - l.h
