-- `labels::count_corner` meets its contract: one corner more is counted. Assumes nothing.
use mathlib.Core.Path.{refl}
use Prim.Native.Nat.{◌<◌}
use native.Mathlib.Omega.{arith}
use Rattle.drawing.specs.Drawing.{darts}
use Rattle.chart.specs.Charts.{drawn}
use Rattle.labels.proofs.Counting.{event_key, face_key, counted_more}
use Rattle.labels.proofs.count_corner.Goals as goal
use Rattle.labels.proofs.count_corner.Goals.{Start}

inside : (c : Start) → c.args.c < darts (drawn c.args.chart.now)
inside c = omega (arith, c.args.chart.now.shape.darts, c.requires.body_len.1)

pub add_large-requires : goal.add_large-requires
add_large-requires c =
    let S = c.args.chart.now.shape in
    event_key _ _ _ _ _ _ c.requires.counted (inside (goal.at.add_large-requires c).Start) (omega (arith, S.darts, S.few)) _ (omega (arith, S.darts, c.requires.known.0))

pub add_large-requires-2 : goal.add_large-requires-2
add_large-requires-2 c =
    let S = c.args.chart.now.shape in
    face_key _ _ _ _ _ _ c.requires.counted (inside (goal.at.add_large-requires-2 c).Start) (omega (arith, S.darts, S.few)) _ (omega (arith, S.darts, c.requires.known.1.1.inside))

pub returns : goal.returns
returns c =
    let i = inside (goal.at.returns c).Start in
    counted_more _ _ _ _ _ _ c.requires.counted i c.requires.known.0 (c.requires.known.1.1.inside _ i) _ _ _ _ _
    c.event_of-e.ensures c.get-f.ensures refl c.add_large.ensures c.add_large-2.ensures
