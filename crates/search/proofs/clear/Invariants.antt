use Rattle.placing.proofs.Listing.{Clearing}
use Rattle.search.proofs.clear.Given as goal

abbrev pub invariant-loop-c : goal.invariant-loop-c
invariant-loop-c l = Clearing l.here l.list l.rank l.c-index
