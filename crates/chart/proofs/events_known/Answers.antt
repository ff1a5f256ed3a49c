-- `chart::events_known` meets its contract: the events of the darts passed are known. Assumes nothing.
use borrow.Author.Rules.{rules}
use borrow.Author.Count.{below_more}
use native.Mathlib.Omega.{arith}
use Rattle.chart.proofs.events_known.Goals as goal

pub returns-then-v-event_of : goal.returns-then-v-event_of
returns-then-v-event_of c = λ k. absurd (omega (arith, k c.loop-d.d (omega (arith, c.args.chart.now.shape.darts))))

pub loop-d-preserved : goal.loop-d-preserved
loop-d-preserved c = below_more _ _ c.loop-d.invariant (search rules)

pub returns : goal.returns
returns c = λ d l. c.loop-d.invariant d (omega (arith, c.args.chart.now.shape.darts))
