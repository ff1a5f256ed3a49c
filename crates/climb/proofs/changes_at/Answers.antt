-- `climb::changes_at` meets its contract: the changes so far are those of the corners passed, and the ring passes each corner once. Assumes nothing.
use mathlib.Core.Path.{refl, sym, ◌∙◌}
use native.Mathlib.Omega.{arith}
use Rattle.climb.proofs.Changes.{start, here, few, beyond, step, nearer, done}
use Rattle.climb.proofs.changes_at.Goals as goal

pub loop-e-init : goal.loop-e-init
loop-e-init c = (start _ _, c.next_of-e.ensures)

pub overflow_add-count : goal.overflow_add-count
overflow_add-count c =
    let l = c.loop-e in
    omega (arith, here _ c.requires.0 _ _ _ (omega arith) l.invariant.0, beyond _ c.requires.0 _ _ _ (omega arith) l.invariant.0 _ l.invariant.1)

pub overflow_add-count-in-loop-e : goal.overflow_add-count-in-loop-e
overflow_add-count-in-loop-e c = omega (arith, few _ c.requires.0 _ _ _ (omega arith) c.loop-e.invariant.0)

pub next_of-e-requires-in-loop-e : goal.next_of-e-requires-in-loop-e
next_of-e-requires-in-loop-e c =
    let l = c.loop-e in
    omega (arith, beyond _ c.requires.0 _ _ _ (omega arith) l.invariant.0 _ l.invariant.1)

pub loop-e-smaller : goal.loop-e-smaller
loop-e-smaller c =
    let l = c.loop-e in
    nearer _ c.requires.0 _ _ _ (omega arith) l.invariant.0 _ l.invariant.1 c.loop-e-test.true

pub loop-e-preserved : goal.loop-e-preserved
loop-e-preserved c =
    let l = c.loop-e in
    (step _ c.requires.0 _ _ _ (omega arith) l.invariant.0 _ l.invariant.1 c.loop-e-test.true, c.next_of-e-in-loop-e.ensures)

pub overflow_add-result : goal.overflow_add-result
overflow_add-result c = omega (arith, here _ c.requires.0 _ _ _ (omega arith) c.loop-e.invariant.0)

pub overflow_add-result-2 : goal.overflow_add-result-2
overflow_add-result-2 c = omega (arith, few _ c.requires.0 _ _ _ (omega arith) c.loop-e.invariant.0)

pub returns : goal.returns
returns c =
    let l = c.loop-e in
    done _ c.requires.0 _ _ _ (omega arith) l.invariant.0 _ (sym c.loop-e-test.false ∙ l.invariant.1) refl
