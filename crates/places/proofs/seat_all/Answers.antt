-- `places::seat_all` meets its contract: the poles below w are placed, and nobody from e on. Assumes nothing.
use Rattle.places.proofs.Turns.{going_start}
use Rattle.places.proofs.seat_all.Goals as goal

pub loop-e-init : goal.loop-e-init
loop-e-init c = going_start c.requires
