use Rattle.rooms.specs.Flags.{Decided}
use Rattle.rooms.proofs.decide.Given as goal

abbrev pub invariant-loop-x : goal.invariant-loop-x
invariant-loop-x l = Decided l.x-index l.initial.poles l.poles
