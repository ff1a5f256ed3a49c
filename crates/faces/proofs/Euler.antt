-- What `is_planar` says of a chart's numbers of events, darts and faces is whether its drawing is planar. Assumes nothing.
use mathlib.Core.Path.{◌≡◌}
use mathlib.Core.Bool.{Bool}
use mathlib.Core.List.{List}
use Prim.Native.Nat.{ℕ, ◌+◌, ◌/◌}
use native.Mathlib.Omega.{arith}
use Rattle.finite.specs.Says.{Says}
use Rattle.finite.proofs.Yes.{says_as}
use Rattle.drawing.specs.Drawing.{faces}
use Rattle.drawing.specs.Conditions.{Planar}
use Rattle.rules.specs.Chart.{drawing}
use Rattle.chart.specs.Shape.{Shape}

pub planar_says : (s : List ℕ) (n v f : ℕ) (r : Bool) → Shape s n → v ≡ (drawing s).events → f ≡ faces (drawing s)
    → Says r (v + f ≡ n / 2 + 2) → Says r (Planar (drawing s))
planar_says s n v f r S e q = says_as r (λ t. omega (arith, S.darts)) (λ t. omega (arith, S.darts))
