-- `climb::peel_all` meets its contract: the arrows of the events passed are gone. Assumes nothing.
use native.Mathlib.Omega.{arith}
use Rattle.climb.proofs.Peels.{peeled_few}
use Rattle.climb.proofs.Counts.{peeled_start}
use Rattle.climb.proofs.peel_all.Goals as goal

pub loop-h-init : goal.loop-h-init
loop-h-init c = peeled_start _ _ _ _ c.requires.known.0 c.count_entering.ensures c.list_all_free-t.ensures

pub loop-h-smaller : goal.loop-h-smaller
loop-h-smaller c = omega (arith, peeled_few _ _ _ _ _ c.loop-h.invariant)
