use Rattle.placing.specs.Search.{member, Listing}
use Prim.Native.Nat.{◌≤◌}
use Rattle.places.proofs.cut_list.Given as goal

abbrev pub invariant-loop-v : goal.invariant-loop-v
invariant-loop-v l = (Listing l.v (member l.here l.large l.rank l.u) l.list l.k) × (l.k ≤ l.v)
