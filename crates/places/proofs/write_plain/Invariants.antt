use mathlib.Core.Path.{◌≡◌}
use Prim.Native.Nat.{ℕ, ◌<◌}
use Rattle.drawing.specs.Drawing.{plain}
use Rattle.chart.specs.Charts.{drawn}
use Rattle.words.specs.Tables.{nth}
use Rattle.places.proofs.write_plain.Given as goal

abbrev pub invariant-loop-c : goal.invariant-loop-c
invariant-loop-c l = (k : ℕ) → k < l.c → nth l.labels k ≡ plain (drawn l.chart) k
