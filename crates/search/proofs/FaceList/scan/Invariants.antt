use Rattle.drawing.specs.Drawing.{darts}
use Rattle.chart.specs.Charts.{drawn}
use Rattle.placing.specs.Board.{turn}
use Rattle.placing.proofs.Rounds.{to_go, Scanning}
use Rattle.search.specs.Lists.{Same}
use Rattle.search.proofs.FaceList.scan.Given as goal

abbrev pub invariant-loop-c : goal.invariant-loop-c
invariant-loop-c l = record {
  walk : Scanning (drawn l.seating.chart) l.seating.here.now l.seating.large.now l.seating.spare.now l.first l.initial.self.rank.now l.initial.self.via.now l.initial.self.end l.self.rank.now l.self.via.now l.self.end l.c;
  same : Same l.initial.self l.self;
}

abbrev pub decreases-loop-c : goal.decreases-loop-c
decreases-loop-c l = let g = drawn l.seating.chart in to_go (darts g) (turn g) l.first l.c
