-- `rooms::mark_tails` meets its contract: the events have the flags of the arrows below a that leave them. Assumes nothing.
use Rattle.rooms.proofs.Flagging.{begin, tail_more}
use Rattle.rooms.proofs.mark_tails.Goals as goal

pub loop-a-init : goal.loop-a-init
loop-a-init c = begin _ _ _ c.requires.1 (c.fill.ensures.after (λ y h. h))

pub loop-a-preserved : goal.loop-a-preserved
loop-a-preserved c = tail_more c.args.chart.now.shape c.requires.0 _ c.loop-a-test.true _ c.loop-a.invariant _ c.event_of-v.ensures
