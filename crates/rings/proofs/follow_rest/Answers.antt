-- `rings::follow_rest` meets its contract: the rings of the events marked or below v met so many darts, and at the end these are all or not. Assumes
-- nothing.
use native.Mathlib.Omega.{arith}
use Rattle.rings.proofs.Rest.{all_gone}
use Rattle.rings.proofs.follow_rest.Goals as goal

pub returns : goal.returns
returns c =
    let p = c.requires in
    let l = c.loop-v.invariant in
    all_gone _ _ _ _ l.1 p.ground.kept p.ground.known (omega (arith, p.first_len.0)) _ c.args.chart.now.shape.darts
