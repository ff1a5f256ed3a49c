-- `rooms::mark_heads` meets its contract: the events have the flags of all arrows that leave them, and of the arrows below a that enter them.
-- Assumes nothing.
use Rattle.rooms.proofs.Flagging.{head_more}
use Rattle.rooms.proofs.mark_heads.Goals as goal

pub loop-a-preserved : goal.loop-a-preserved
loop-a-preserved c = head_more c.args.chart.now.shape c.requires.0 _ c.loop-a-test.true _ c.loop-a.invariant _ c.event_of-v.ensures
