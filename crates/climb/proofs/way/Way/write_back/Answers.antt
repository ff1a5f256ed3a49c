-- `climb::Way::write_back` meets its contract: the arrows from place i on are written. Assumes nothing.
use native.Mathlib.Omega.{arith}
use Rattle.climb.proofs.Backs.{writing_start, writing_step}
use Rattle.climb.proofs.way.Way.write_back.Goals as goal

pub loop-i-init : goal.loop-i-init
loop-i-init c = writing_start _ _ _ _

pub loop-i-preserved : goal.loop-i-preserved
loop-i-preserved c = writing_step _ _ _ _ _ _ _ c.loop-i.invariant (omega arith) _ c.back-e.ensures
