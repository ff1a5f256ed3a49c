-- `climb::peel_one` meets its contract: going round the event, the arrows of the darts passed are gone. Assumes nothing.
use native.Mathlib.Omega.{arith}
use Rattle.rules.proofs.Bytes.{darts_even}
use Rattle.climb.proofs.Peels.{waiting_few, place_start, around_few, around_here, around_ready, around_step, around_nearer, around_done}
use Rattle.climb.proofs.peel_one.Goals as goal

pub get-requires : goal.get-requires
get-requires c = omega (arith, waiting_few _ _ _ c.requires.peeled.0.waiting)

pub loop-e-init : goal.loop-e-init
loop-e-init c = place_start _ _ _ _ _ c.requires.peeled.0 c.requires.peeled.1 _ c.get.ensures _ _ c.requires.known.2 c.get-f.ensures

pub free-count-requires : goal.free-count-requires
free-count-requires c =
    let l = c.loop-e in
    let here = around_here _ c.requires.known.0 c.requires.known.1 (darts_even _) _ _ _ _ _ _ l.invariant in
    let few = around_few _ _ _ _ _ _ _ l.invariant in
    record {
      known = (omega (arith, here), omega (arith, few), c.requires.known.0);
      left_len = (l.invariant.held.size, λ q. around_ready _ c.requires.known.0 c.requires.known.1 (darts_even _) _ _ _ _ _ _ l.invariant q (omega arith));
    }

pub next_of-e-requires : goal.next_of-e-requires
next_of-e-requires c = omega (arith, around_here _ c.requires.known.0 c.requires.known.1 (darts_even _) _ _ _ _ _ _ c.loop-e.invariant)

pub loop-e-smaller : goal.loop-e-smaller
loop-e-smaller c = around_nearer _ c.requires.known.0 c.requires.known.1 (darts_even _) _ _ _ _ _ _ c.loop-e.invariant _ _ _ c.free-count.ensures _ c.next_of-e.ensures c.if-e-f.false

pub loop-e-preserved : goal.loop-e-preserved
loop-e-preserved c = around_step _ c.requires.known.0 c.requires.known.1 (darts_even _) _ _ _ _ _ _ c.loop-e.invariant _ _ _ c.free-count.ensures _ c.next_of-e.ensures c.if-e-f.false

pub returns : goal.returns
returns c = around_done _ c.requires.known.0 c.requires.known.1 (darts_even _) _ _ _ _ _ _ c.loop-e.invariant _ _ _ c.free-count.ensures _ c.next_of-e.ensures c.if-e-f.true
