-- `climb::choose` meets its contract: each arrow passed between events left has one stored at its head. Assumes nothing.
use native.Mathlib.Omega.{arith}
use Rattle.climb.proofs.Backs.{looked_step, looked_done}
use Rattle.climb.proofs.choose.Goals as goal

pub loop-a-preserved : goal.loop-a-preserved
loop-a-preserved c = looked_step _ _ _ _ _ c.loop-a.invariant c.requires.known (omega arith) _ _ c.enter-e.ensures

pub returns : goal.returns
returns c = looked_done _ _ _ _ _ c.loop-a.invariant c.requires.kept.0 (omega arith)
