-- `cuts::cut_holds` meets its contract: a cut fits the table of the sources and sinks, and a list that fits is one exactly if the room taken out is below its length. Assumes nothing.
use Prim.Native.Nat.{◌/◌}
use lib.ListN.{length}
use Rattle.rules.proofs.Bytes.{words-length}
use Rattle.cuts.proofs.Judging.{refused, judged}
use Rattle.cuts.proofs.cut_holds.Goals as goal

pub returns-then-list_fits : goal.returns-then-list_fits
returns-then-list_fits c =
    let b = c.args.body.now in
    judged c.args.chart.now.shape c.requires _ _ c.if-list_fits.ensures c.list_fits.auto.poles c.touched_room.ensures _ (words-length b 0 (length b / 2))

pub returns-else-list_fits : goal.returns-else-list_fits
returns-else-list_fits c = rw c.if-list_fits.false (refused c.args.chart.now.shape c.requires _ c.list_fits.new.poles c.if-list_fits.ensures)
