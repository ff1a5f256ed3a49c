-- The chart file, version 1, and the drawing that it holds (document 01, "The chart file, version 1"). Assumes nothing.
-- This is the only bridge from bytes to drawings.
use Rattle.std.specs.Prelude.{ℕ, ◌+◌, ◌*◌, ◌/◌, List, [], ◌∷◌, ◌++◌, length}
use Rattle.drawing.specs.Drawing.{Drawing}
use Rattle.rules.specs.Words.{u16, words, bytes}

-- "5-6 events V"
abbrev pub events_in : List ℕ → ℕ
events_in s = u16 s 5

-- "7-8 arrows A"
abbrev pub arrows_in : List ℕ → ℕ
arrows_in s = u16 s 7

-- "9-10 outer dart; next 4A: tail and head of each arrow", which are the events of the darts 0 .. 2A-1 in order;
-- "next 4A: for each dart 0 .. 2A-1, the next dart clockwise round its event"
unfoldable pub drawing : List ℕ → Drawing
drawing s = record {
  events = events_in s;
  outer = u16 s 9;
  at = words s 11 (2 * arrows_in s);
  next = words s (11 + 4 * arrows_in s) (2 * arrows_in s);
}

-- the chart of version 1 that holds a drawing: `EVC`, version 1, V, A, the outer dart, and the two tables
unfoldable pub charted : Drawing → List ℕ
charted g = 69 ∷ 86 ∷ 67 ∷ bytes (1 ∷ g.events ∷ length g.at / 2 ∷ g.outer ∷ []) ++ (bytes g.at ++ bytes g.next)
