-- The tests 2 to 8, of a chart's form, and what they leave of it. Assumes nothing.
--   header_tests    the tests 2 to 5, of the header and the length
--   end_tests       the tests 6 and 7, of the events of the darts
--   table_tests     the tests 6 to 8, of these and the outer dart
--   form_tests      all of them, in document 01's order
--   Sound s         what they leave of the chart s
use Rattle.std.specs.Prelude.{List, [], ◌∷◌, ◌++◌, ℕ, ◌*◌}
use Rattle.drawing.specs.Conditions.{EventsKnown, NoOwnArrow, OuterKnown}
use Rattle.rules.specs.Chart.{drawing, arrows_in}
use Rattle.rules.specs.Tests.{Test, mark, version, counts, size, unknown, own, outer}
use Rattle.chart.specs.Shape.{Shape}

abbrev pub header_tests : List Test
header_tests = mark ∷ version ∷ counts ∷ size ∷ []

abbrev pub end_tests : List Test
end_tests = unknown ∷ own ∷ []

abbrev pub table_tests : List Test
table_tests = end_tests ++ (outer ∷ [])

abbrev pub form_tests : List Test
form_tests = mark ∷ version ∷ counts ∷ size ∷ unknown ∷ own ∷ outer ∷ []

pub record Sound (s : List ℕ) : Type 0 where
  pub shape : Shape s (2 * arrows_in s)
  pub known : EventsKnown (drawing s)
  pub own : NoOwnArrow (drawing s)
  pub outer : OuterKnown (drawing s)
