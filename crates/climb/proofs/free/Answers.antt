-- `climb::free` meets its contract, whichever way the arrow runs. Assumes nothing.
use Rattle.chart.specs.Charts.{drawn}
use Rattle.climb.proofs.Freeing.{freed_full, freed_set}
use Rattle.climb.proofs.free.Goals as goal

pub returns-then-list-t : goal.returns-then-list-t
returns-then-list-t c = freed_full (drawn c.args.chart.now) _ _ _ _ _ _ c.requires.left_len.1 c.event_of-e.ensures c.get-k.ensures _ c.put.ensures c.if-list-t.true

pub returns : goal.returns
returns c = freed_set (drawn c.args.chart.now) _ _ _ _ _ _ c.requires.left_len.1 c.event_of-e.ensures c.get-k.ensures _ c.put.ensures _ c.put-2.ensures _ c.below.ensures.0 c.below.ensures.1
