-- `lines::find_larges` meets its contract: the corners below c are noted. Assumes nothing.
use Rattle.lines.proofs.First.{note_start}
use Rattle.lines.proofs.find_larges.Goals as goal

pub loop-c-init : goal.loop-c-init
loop-c-init c = rw c.fill.ensures.after (note_start _ c.args.labels.now _ c.requires.large_len)
