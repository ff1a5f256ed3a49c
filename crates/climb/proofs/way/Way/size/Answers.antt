-- `climb::Way::size` meets its contract: k steps back with no return. Assumes nothing.
use native.Mathlib.Omega.{arith}
use Rattle.finite.proofs.Walk.{walk_start}
use Rattle.climb.proofs.Backs.{turn_steps, turn_nearer, turn_again, turn_done}
use Rattle.climb.proofs.way.Way.size.Goals as goal

pub loop-e-init : goal.loop-e-init
loop-e-init c = walk_start _ _

pub overflow_add-k : goal.overflow_add-k
overflow_add-k c = omega (arith, turn_steps _ c.args.self.now.known c.args.self.now.into.now _ c.requires _ _ c.loop-e.invariant)

pub loop-e-smaller : goal.loop-e-smaller
loop-e-smaller c = turn_nearer _ c.args.self.now.known c.args.self.now.into.now _ c.requires _ _ _ c.loop-e.invariant c.back-e.ensures c.if-e-s.false

pub loop-e-preserved : goal.loop-e-preserved
loop-e-preserved c = turn_again _ c.args.self.now.known c.args.self.now.into.now _ c.requires _ _ _ c.loop-e.invariant c.back-e.ensures c.if-e-s.false

pub returns : goal.returns
returns c = turn_done _ c.args.self.now.known c.args.self.now.into.now _ c.requires _ _ _ c.loop-e.invariant c.back-e.ensures c.if-e-s.true
