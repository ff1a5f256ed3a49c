-- `climb::Way::lowest` meets its contract: the best so far has the lowest arrow of those passed. Assumes nothing.
use Rattle.climb.proofs.Backs.{turn_nearer, lowered_start, lowered_step, lowered_done}
use Rattle.climb.proofs.way.Way.lowest.Goals as goal

pub loop-e-init : goal.loop-e-init
loop-e-init c = lowered_start _ _ _

pub loop-e-smaller : goal.loop-e-smaller
loop-e-smaller c = turn_nearer _ c.args.self.now.known c.args.self.now.into.now _ c.requires _ _ _ c.loop-e.invariant.walk c.back-e.ensures c.if-e-s.false

pub loop-e-preserved : goal.loop-e-preserved
loop-e-preserved c = lowered_step _ c.args.self.now.known _ _ _ _ c.requires c.loop-e.invariant _ c.back-e.ensures c.if-e-s.false _ c.lower-best.ensures

pub returns : goal.returns
returns c = lowered_done _ c.args.self.now.known _ _ _ _ c.requires c.loop-e.invariant _ c.back-e.ensures c.if-e-s.true
