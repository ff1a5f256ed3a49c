-- `rooms::decide` meets its contract: the entries passed are decided. Assumes nothing.
use mathlib.Core.Path.{refl}
use borrow.Author.Rules.{rules}
use Rattle.rooms.proofs.Flagging.{pole_said, decided_more}
use Rattle.rooms.proofs.decide.Goals as goal

pub loop-x-preserved : goal.loop-x-preserved
loop-x-preserved c = decided_more _ _ _ c.loop-x.invariant (search rules) _ _ refl (pole_said _ _ c.from.ensures)
