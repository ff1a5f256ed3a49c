use Prim.Native.Nat.{ℕ, ◌<◌}
use Rattle.drawing.specs.Drawing.{event}
use Rattle.chart.specs.Charts.{drawn}
use Rattle.chart.proofs.events_known.Given as goal

abbrev pub invariant-loop-d : goal.invariant-loop-d
invariant-loop-d l = (k : ℕ) → k < l.d → event (drawn l.chart) k < (drawn l.chart).events
