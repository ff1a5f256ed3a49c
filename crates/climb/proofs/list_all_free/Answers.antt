-- `climb::list_all_free` meets its contract: of the events passed, those with no arrows are listed. Assumes nothing.
use native.Mathlib.Omega.{arith}
use Rattle.climb.proofs.Counts.{upto_few, upto_step}
use Rattle.climb.proofs.list_all_free.Goals as goal

pub list_free-t-requires : goal.list_free-t-requires
list_free-t-requires c =
    let l = c.loop-e in
    omega (arith, upto_few _ _ _ _ l.invariant, l.invariant.room)

pub loop-e-preserved : goal.loop-e-preserved
loop-e-preserved c = upto_step _ _ _ _ c.loop-e.invariant c.loop-e-test.true _ _ c.list_free-t.ensures
