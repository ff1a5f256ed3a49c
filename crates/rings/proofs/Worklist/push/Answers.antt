-- `rings::Worklist::push` meets its contract: an event without a mark gets one, and its dart the next place of the queue. Assumes nothing.
use native.Mathlib.Omega.{arith}
use Rattle.rings.proofs.Pushing.{full, store}
use Rattle.rings.proofs.Worklist.push.Goals as goal

pub returns-then-self-clause-pushed : goal.returns-then-self-clause-pushed
returns-then-self-clause-pushed c = full c.args.chart.now.shape c.requires _ 0 c.event_of-v.ensures c.if-self.true

pub returns-clause-pushed : goal.returns-clause-pushed
returns-clause-pushed c =
    let new = c.below-new.ensures in
    store c.args.chart.now.shape c.requires _ _ c.event_of-v.ensures c.from-m.ensures (omega arith) _ new.0 (λ l. new.1 (omega arith)) _ _ c.put.ensures c.put-2.ensures
