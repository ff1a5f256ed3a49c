-- `search::sit` meets its contract: the event had no place, and the face of the corner has room. Assumes nothing.
use Rattle.placing.proofs.Moves.{placed_here}
use Rattle.search.proofs.Near.{sits_seat}
use Rattle.search.proofs.sit.Goals as goal

pub returns : goal.returns
returns c =
    let pre = c.requires in
    let put = c.put in
    let get2 = c.get-left in
    let put2 = c.put-2 in
    rw (put2.ensures, put.ensures, get2.ensures) (placed_here (sits_seat pre c.get-f.ensures) pre.free)
