-- `rooms::room_table` meets its contract: half the switch corners of a face, four more for the outer one, is its room and one more.
-- What only keeps within bounds holds of any corner. Assumes nothing.
use mathlib.Core.Path.{refl}
use Prim.Native.Nat.{◌<◌}
use native.Mathlib.Omega.{arith}
use lib.ListN.{length}
use Rattle.drawing.specs.Drawing.{darts}
use Rattle.chart.specs.Charts.{drawn}
use Rattle.rooms.proofs.Rooms.{twin_in, key_in, fits, enough, roomed}
use Rattle.rooms.proofs.room_table.Goals as goal
use Rattle.rooms.proofs.room_table.Goals.{After-get-f}

far : (c : After-get-f) → c.twin.result < darts (drawn c.args.chart.now)
far c = let p = c.requires in twin_in c.args.chart.now.shape p.0 p.1 p.2 _ _ c.twin.ensures (omega (arith, c.outer_dart.ensures, p.1))

inside : (c : After-get-f) → c.get-f.result < length c.args.spare.now
inside c = let p = c.requires in key_in c.args.chart.now.shape p.0 p.1 p.2 _ p.3 p.4 _ _ c.get-f.ensures (far c)

pub get-f-requires : goal.get-f-requires
get-f-requires c =
    let p = c.requires in
    omega (arith, twin_in c.args.chart.now.shape p.0 p.1 p.2 _ _ c.twin.ensures (omega (arith, c.outer_dart.ensures, p.1)), p.2.size)

pub bounds-spare-f : goal.bounds-spare-f
bounds-spare-f c = inside (goal.at.bounds-spare-f c).After-get-f

pub bounds-spare-f-2 : goal.bounds-spare-f-2
bounds-spare-f-2 c = inside (goal.at.bounds-spare-f-2 c).After-get-f

pub overflow_add-spare : goal.overflow_add-spare
overflow_add-spare c = let p = c.requires in omega (arith, fits c.args.chart.now.shape p.0 p.1 p.2 _ p.3 p.4 _ _ c.get-f.ensures (far (goal.at.overflow_add-spare c).After-get-f))

pub halve-requires : goal.halve-requires
halve-requires c = let p = c.requires in enough c.args.chart.now.shape p.0 p.1 p.2 _ p.3 p.4 _ _ _ c.outer_dart.ensures c.twin.ensures c.get-f.ensures _ _ refl p.5 (omega arith)

pub returns : goal.returns
returns c = let p = c.requires in roomed c.args.chart.now.shape p.0 p.1 p.2 _ p.3 p.4 _ _ _ c.outer_dart.ensures c.twin.ensures c.get-f.ensures _ _ refl p.5 refl _ c.halve.ensures
