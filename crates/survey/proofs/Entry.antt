-- From the tests of the form to those of the drawing. Assumes nothing.
use mathlib.Core.List.{List}
use Prim.Native.Nat.{ℕ}
use Rattle.rules.specs.Chart.{drawing}
use Rattle.rules.specs.Tests.{Given}
use Rattle.chart.specs.Form.{form_tests}
use Rattle.chart.proofs.Form.{given_formed}
use Rattle.survey.specs.Past.{Formed}

-- a chart that the tests of the form let pass
pub form_formed : (s : List ℕ) → Given form_tests s 0 0 → Formed (drawing s)
form_formed s g = let F = given_formed s g in record { known = F.known; own = F.own; outer = F.outer }
