use Prim.Native.Nat.{◌<◌}
use Rattle.finite.proofs.Walk.{Walk}
use Rattle.drawing.specs.Drawing.{after}
use Rattle.chart.specs.Charts.{drawn}
use Rattle.rings.proofs.steps_back.Given as goal

abbrev pub invariant-loop-k : goal.invariant-loop-k
invariant-loop-k l = (l.c < l.chart.darts) × Walk (after (drawn l.chart)) l.d l.k l.c
