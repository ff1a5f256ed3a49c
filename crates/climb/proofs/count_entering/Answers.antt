-- `climb::count_entering` meets its contract: each arrow passed counts at its head. Assumes nothing.
use mathlib.Core.Path.{refl}
use Prim.Native.Nat.{◌+◌, ◌*◌}
use native.Mathlib.Omega.{arith}
use Rattle.climb.proofs.Counts.{tallied_start, tallied_few, tallied_step}
use Rattle.climb.proofs.count_entering.Goals as goal

pub loop-a-init : goal.loop-a-init
loop-a-init c = tallied_start _ _ _ c.requires.1 refl

pub overflow_add-left : goal.overflow_add-left
overflow_add-left c =
    let e = c.event_of in
    omega (arith, tallied_few _ _ _ c.loop-a.invariant e.result (omega (arith, e.ensures, c.requires.0 (2 * c.loop-a.a + 1) (omega arith))))

pub loop-a-preserved : goal.loop-a-preserved
loop-a-preserved c = tallied_step _ _ _ c.loop-a.invariant c.requires.0 (omega arith) _ _ c.event_of.ensures refl
