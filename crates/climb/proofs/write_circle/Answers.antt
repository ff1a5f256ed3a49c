-- `climb::write_circle` meets its contract: the turn back from the head of its lowest arrow, written. Assumes nothing.
use Rattle.std.proofs.Common.{arith}
use Rattle.std.proofs.lemmas.Grind.{common_steps}
use Rattle.climb.proofs.Backs.{circle_found}
use Rattle.climb.proofs.write_circle.Goals as goal

pub returns : goal.returns
returns c = circle_found _ _ _ _ _ _ (grind (arith, common_steps, c.write_back.auto.out)) c.size-m.ensures.0 c.lowest-s.ensures.1 c.write_back.ensures
