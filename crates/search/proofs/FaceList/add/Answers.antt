-- `search::FaceList::add` meets its contract: a face that is not listed leaves room at the end of the list. Assumes nothing.
use native.Mathlib.Omega.{arith}
use Prim.Native.Nat.{◌≤◌, ◌<◌}
use lib.ListN.{length}
use Rattle.placing.proofs.Listing.{list_in, list_room, added_full, added_room}
use Rattle.search.proofs.FaceList.add.Goals as goal
use Rattle.search.proofs.FaceList.add.Goals.{Else-self-f-ge1}

-- the corner
known : (c : Else-self-f-ge1) → c.args.c < length c.args.seating.now.here.now
known c = omega (arith, c.requires.1, c.requires.0.board.keyed.size, c.args.seating.now.chart.shape.darts)

-- the list has room for its face
room : (c : Else-self-f-ge1) → (c.args.self.now.end < length c.args.self.now.rank.now) × (length c.args.self.now.rank.now ≤ 6144)
room c = (list_room c.requires.0.held (known c) c.get-f.ensures (omega (arith, c.if-self-f-ge1.false)), omega (arith, c.requires.0.held.ranks, c.requires.0.board.keyed.size, c.args.seating.now.chart.shape.darts, c.args.seating.now.chart.shape.few))

pub put-requires : goal.put-requires
put-requires c = (omega (arith, room (goal.at.put-requires c).Else-self-f-ge1, c.requires.0.held.vias), omega (arith, c.requires.1, c.args.seating.now.chart.shape.few))

pub overflow_add-t : goal.overflow_add-t
overflow_add-t c = omega (arith, room (goal.at.overflow_add-t c).Else-self-f-ge1)

pub put-requires-2 : goal.put-requires-2
put-requires-2 c = let k = (goal.at.put-requires-2 c).Else-self-f-ge1 in (list_in c.requires.0.held (known k) c.get-f.ensures, omega (arith, room k))

pub overflow_add-self : goal.overflow_add-self
overflow_add-self c = omega (arith, room (goal.at.overflow_add-self c).Else-self-f-ge1)

pub returns-then-get-ge1-clause-answer : goal.returns-then-get-ge1-clause-answer
returns-then-get-ge1-clause-answer c = added_room _ c.requires.0.held (known (goal.at.returns-then-get-ge1-clause-answer c).Else-self-f-ge1) c.get-f.ensures (omega (arith, c.if-self-f-ge1.false)) c.put-2.ensures c.put.ensures (omega (arith, c.get.ensures, c.if-get-ge1.true))

pub returns-clause-answer : goal.returns-clause-answer
returns-clause-answer c = added_full _ c.requires.0.held (known (goal.at.returns-clause-answer c).Else-self-f-ge1) c.get-f.ensures (omega (arith, c.if-self-f-ge1.false)) c.put-2.ensures c.put.ensures (omega (arith, c.get.ensures, c.if-get-ge1.false))
