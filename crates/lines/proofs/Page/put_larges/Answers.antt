-- `lines::Page::put_larges` meets its contract: with a labelling, the events that have a large corner are the sources and sinks. Assumes nothing.
use native.Mathlib.Omega.{arith}
use Rattle.lines.proofs.Pages.{put_as}
use Rattle.lines.proofs.First.{noted_table, table_corners}
use Rattle.lines.proofs.Page.put_larges.Goals as goal

pub put_table-requires : goal.put_table-requires
put_table-requires c =
    let N = c.find_larges.ensures in
    let s = c.requires.labelled in
    (omega (arith, N.size, s.room), noted_table _ _ _ _ N s.shape.few s.shape.events.1)

pub returns : goal.returns
returns c =
    let s = c.requires.labelled in
    put_as c.put_table.ensures (table_corners s.labelling s.shape.darts s.shape.few c.find_larges.ensures)
