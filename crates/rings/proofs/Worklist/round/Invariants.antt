use Rattle.chart.specs.Charts.{drawn}
use Rattle.rings.specs.Joining.{Lent}
use Rattle.rings.proofs.Rounding.{Going}
use Rattle.rings.proofs.Worklist.round.Given as goal

abbrev pub invariant-loop-steps : goal.invariant-loop-steps
invariant-loop-steps l = record {
  lent : Lent l.initial.self l.self;
  going : Going (drawn l.chart) l.s l.initial.self.first.now l.initial.self.queue.now l.initial.self.end l.self.first.now l.self.queue.now l.self.end l.steps l.e;
}
