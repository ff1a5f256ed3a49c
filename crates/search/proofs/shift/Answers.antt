-- `search::shift` meets its contract: each move keeps a valid placement, and the room moves to a face earlier in the list. Assumes nothing.
use Prim.Native.Nat.{◌≤◌}
use native.Mathlib.Omega.{arith}
use Rattle.placing.proofs.Moves.{moving_start, place_in, face_in, seat, spare_few, landed, old_in, old_face, old_rank, old_size, old_few, moved}
use Rattle.search.proofs.shift.Goals as goal
use Rattle.search.proofs.shift.Goals.{After-get-b}

pub loop-u-init : goal.loop-u-init
loop-u-init c = moving_start c.requires.board c.requires.valid c.requires.way (omega (arith, c.requires.free, c.args.chart.now.shape.darts))

pub get-c-requires : goal.get-c-requires
get-c-requires c = place_in c.loop-u.invariant

pub put-requires-in-loop-u : goal.put-requires-in-loop-u
put-requires-in-loop-u c =
    let inside = face_in (seat c.loop-u.invariant c.get-c.ensures c.event_of-e.ensures c.get-f.ensures) in
    (omega (arith, inside, c.loop-u.invariant.valid.keys), omega (arith, c.get-a.ensures, spare_few c.loop-u.invariant c.get-f.result inside, c.requires.few c.get-f.result inside))

pub returns-then-e-u : goal.returns-then-e-u
returns-then-e-u c =
    rw (c.put-in-loop-u.ensures, c.put.ensures, c.get-a.ensures) (landed c.loop-u.invariant c.get-c.ensures c.event_of-e.ensures c.get-f.ensures c.if-e-u.true)

pub get-h-requires : goal.get-h-requires
get-h-requires c =
    omega (arith, old_in c.loop-u.invariant c.get-c.ensures c.event_of-e.ensures c.get-f.ensures c.if-e-u.false c.get-old.ensures, c.requires.board.keyed.size)

pub get-b-requires : goal.get-b-requires
get-b-requires c =
    old_size c.loop-u.invariant c.get-c.ensures c.event_of-e.ensures c.get-f.ensures c.if-e-u.false c.get-old.ensures c.get-h.ensures c.get-a.ensures c.put-in-loop-u.ensures

-- the face that the event leaves has few places of room
few : (c : After-get-b) → c.get-b.result ≤ 6144
few c = omega (
  arith,
  c.get-b.ensures,
  old_few c.loop-u.invariant c.get-c.ensures c.event_of-e.ensures c.get-f.ensures c.if-e-u.false c.get-old.ensures c.get-h.ensures c.get-a.ensures c.put-in-loop-u.ensures,
  c.requires.few c.get-h.result (old_face c.loop-u.invariant c.get-c.ensures c.event_of-e.ensures c.get-f.ensures c.if-e-u.false c.get-old.ensures c.get-h.ensures),
)

pub put-requires-in-loop-u-2 : goal.put-requires-in-loop-u-2
put-requires-in-loop-u-2 c = (
  old_size c.loop-u.invariant c.get-c.ensures c.event_of-e.ensures c.get-f.ensures c.if-e-u.false c.get-old.ensures c.get-h.ensures c.get-a.ensures c.put-in-loop-u.ensures,
  omega (arith, few (goal.at.put-requires-in-loop-u-2 c).After-get-b),
)

pub get-q-requires : goal.get-q-requires
get-q-requires c = omega (
  arith,
  c.get-h.ensures,
  c.loop-u.invariant.way.held.into c.get-old.result (omega (arith, old_in c.loop-u.invariant c.get-c.ensures c.event_of-e.ensures c.get-f.ensures c.if-e-u.false c.get-old.ensures, c.requires.board.keyed.size)),
)

pub overflow_sub-i : goal.overflow_sub-i
overflow_sub-i c = omega (arith, c.get-q.ensures, (old_rank c.loop-u.invariant c.get-c.ensures c.event_of-e.ensures c.get-f.ensures c.if-e-u.false c.get-old.ensures c.get-h.ensures).0)

pub loop-u-smaller : goal.loop-u-smaller
loop-u-smaller c =
    let old = old_rank c.loop-u.invariant c.get-c.ensures c.event_of-e.ensures c.get-f.ensures c.if-e-u.false c.get-old.ensures c.get-h.ensures in
    omega (arith, c.get-q.ensures, old.0, old.1)

pub loop-u-preserved : goal.loop-u-preserved
loop-u-preserved c =
    rw (c.put-in-loop-u-2.ensures, c.get-b.ensures, c.get-q.ensures, c.put.ensures)
    (moved c.loop-u.invariant c.get-c.ensures c.event_of-e.ensures c.get-f.ensures c.if-e-u.false c.get-old.ensures c.get-h.ensures c.get-a.ensures c.put-in-loop-u.ensures)
