-- `climb::Way::far_back` meets its contract: after i steps it stands i events back. Assumes nothing.
use native.Mathlib.Omega.{arith}
use Rattle.chart.specs.Charts.{drawn}
use Rattle.climb.proofs.Backs.{way_start, way_at, way_next, far}
use Rattle.climb.proofs.way.Way.far_back.Goals as goal

pub loop-init : goal.loop-init
loop-init c = way_start (drawn c.args.self.now.chart) c.args.self.now.into.now _

pub back-v-requires : goal.back-v-requires
back-v-requires c =
    let w = way_at _ c.args.self.now.known _ _ _ c.requires.1 _ _ c.loop.invariant in
    (omega (arith, w.1, c.requires.1.size), w.0.0)

pub loop-preserved : goal.loop-preserved
loop-preserved c = way_next _ c.args.self.now.known _ _ _ c.requires.1 _ _ c.loop.invariant _ c.back-v.ensures

pub returns : goal.returns
returns c = far _ c.args.self.now.known _ _ _ c.requires.1 _ _ c.loop.invariant (omega (arith, c.requires.1.size))
