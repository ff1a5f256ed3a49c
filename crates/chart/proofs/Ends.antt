-- The tests 6 and 7, an arrow at a time. Assumes nothing.
--   Apart g d       of the arrows whose darts are below d, the events are known and each has two
use mathlib.Core.Logic.{◌≢◌}
use Prim.Native.Nat.{ℕ, ◌*◌, ◌%◌, ◌<◌}
use mathlib.Core.Path.{◌≡◌}
use Rattle.drawing.specs.Drawing.{Drawing, event, tail, head}

pub record Apart (g : Drawing) (d : ℕ) : Type 0 where
  pub even : d % 2 ≡ 0
  pub known : (k : ℕ) → k < d → event g k < g.events
  pub two : (a : ℕ) → 2 * a < d → tail g a ≢ head g a
