-- The chart's two tables, in its bytes. Assumes nothing.
use mathlib.Core.Path.{◌≡◌, sym, ap, ◌∙◌}
use mathlib.Core.List.{List}
use Prim.Native.Nat.{ℕ, ◌+◌, ◌*◌, ◌-◌, ◌<◌}
use native.Mathlib.Nat.{add_assoc}
use native.Mathlib.Omega.{arith}
use lib.ListN.{length, get_or, take, drop, length-drop}
use lib.Seq.{get_or-drop, take_all}
use Rattle.drawing.specs.Drawing.{event, after}
use Rattle.rules.specs.Words.{u16}
use Rattle.rules.specs.Chart.{drawing, arrows_in}
use Rattle.rules.proofs.Bytes.{darts-drawing, event-drawing, after-drawing}
use Rattle.chart.specs.Shape.{Shape}

module _ (s : List ℕ) (n d : ℕ) (S : Shape s n) (l : d < n) where
  inside : d < 2 * arrows_in s
  inside = omega (arith, S.darts, darts-drawing s)

  pub event_in : event (drawing s) d ≡ u16 s (11 + 2 * d)
  event_in = event-drawing s d inside

  -- the second table is the part of the chart after the first
  pub next_in : after (drawing s) d ≡ u16 (take (length s - (11 + 2 * n)) (drop (11 + 2 * n) s)) (2 * d)
  unfolding u16
  next_in = rw (take_all (length s - (11 + 2 * n)) (drop (11 + 2 * n) s) (omega (arith, length-drop (11 + 2 * n) s)))
      (after-drawing s d inside ∙ ap (u16 s) (omega (arith, S.darts, darts-drawing s)) ∙ sym (part (11 + 2 * n) (2 * d)))
    where
      part : (k i : ℕ) → u16 (drop k s) i ≡ u16 s (k + i)
      part k i = omega (arith, get_or-drop k s i 0, get_or-drop k s (i + 1) 0, ap (λ (j : ℕ). get_or s j 0) (add_assoc k i 1))
