use Rattle.rooms.specs.Counts.{Halved}
use Rattle.rooms.proofs.halve.Given as goal

abbrev pub invariant-loop-x : goal.invariant-loop-x
invariant-loop-x l = Halved l.x-index l.initial.spare l.spare
