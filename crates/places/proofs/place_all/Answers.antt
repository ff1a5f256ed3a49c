-- `places::place_all` meets its contract: all sit, or those who are left are searched for. Assumes nothing.
use Rattle.places.proofs.Turns.{rest_as}
use Rattle.places.proofs.place_all.Goals as goal

pub returns-then-spare-le32 : goal.returns-then-spare-le32
returns-then-spare-le32 c = rest_as _ _ c.in_ok-w.ensures _ c.search_in.ensures

pub returns-else-spare-le32 : goal.returns-else-spare-le32
returns-else-spare-le32 c = rest_as _ _ c.in_ok-w.ensures _ c.search_in-else-spare-le32.ensures
