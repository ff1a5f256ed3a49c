-- `climb::list_free` meets its contract: the event is stored at the end, which moves if no arrow enters it. Assumes nothing.
use Rattle.climb.proofs.Freeing.{sourced}
use Rattle.climb.proofs.list_free.Goals as goal

pub returns : goal.returns
returns c = rw c.put.ensures (sourced _ _ _ _ _ _ c.get.ensures c.below.ensures)
