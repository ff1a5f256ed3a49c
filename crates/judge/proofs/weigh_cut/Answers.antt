-- `judge::weigh_cut` meets its contract: past test 13 no room is negative. Assumes nothing.
use borrow.Author.Rules.{rules}
use Rattle.survey.proofs.Rooms.{clear_rooms}
use Rattle.judge.proofs.weigh_cut.Goals as goal

pub room_table-requires : goal.room_table-requires
room_table-requires c =
    let p = c.requires in
    let C = p.clear.0 in
    (C.past.rings, C.formed.outer, p.clear.1, search rules, p.poles_len.1.1, clear_rooms _ C)
