-- `findings::settle` meets its contract: past test 13 no room is negative, and the rooms total the sources and sinks. Assumes nothing.
--   few       as many entries as there are faces are lent
use mathlib.Core.Path.{◌∙◌}
use Prim.Native.Nat.{◌≤◌}
use native.Mathlib.Omega.{arith}
use native.Mathlib.Nat.{sub-zero}
use lib.ListN.{length}
use Rattle.survey.proofs.Rooms.{part_length, part_switched, clear_rooms, clear_total, clear_faces}
use Rattle.findings.proofs.settle.Goals as goal
use Rattle.findings.proofs.settle.Goals.{After-face_count-f}

few : (c : After-face_count-f) → c.face_count-f.result ≤ length c.args.spare.now
few c = omega (arith, c.face_count-f.ensures.1, c.requires.sizes.2)

pub room_table-requires : goal.room_table-requires
room_table-requires c =
    let C = c.requires.clear in
    let f = c.face_count-f in
    let less = few (goal.at.room_table-requires c).After-face_count-f in (
      C.past.rings,
      C.formed.outer,
      c.requires.tables.0,
      rw sub-zero at (part_length f.result _ less) ∙ f.ensures.0,
      rw sub-zero at (part_switched f.result _ less c.requires.tables.2),
      clear_rooms _ C,
    )

pub write_places-requires-clause-ready : goal.write_places-requires-clause-ready
write_places-requires-clause-ready c =
    let C = c.requires.clear in
    let t = c.requires.tables in
    let S = c.args.chart.now.shape in record {
      rings = C.past.rings;
      known = C.formed.known;
      outer = C.formed.outer;
      keyed = t.0;
      poled = c.pole_table.ensures;
      firsts = t.1;
      few = omega (arith, (clear_faces _ C _ S).1, S.few);
      roomed = c.room_table.ensures;
      total = clear_total _ C _ _ _ t.0 c.pole_table.ensures c.room_table.ensures;
    }
