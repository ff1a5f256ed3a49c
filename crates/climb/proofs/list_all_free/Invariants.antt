use Rattle.climb.proofs.Counts.{Upto}
use Rattle.climb.proofs.list_all_free.Given as goal

abbrev pub invariant-loop-e : goal.invariant-loop-e
invariant-loop-e l = Upto l.left l.list l.e l.t
