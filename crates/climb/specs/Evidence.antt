-- What the tests 12 and 13 answer with. Assumes nothing.
--   LowestMixed g r      r is the lowest mixed event, or None where none is mixed
--   CircleFound g out r  the first k entries of out are the arrows of a circle, the lowest first, where r is Some k; where r is None there is no circle
use Rattle.std.specs.Prelude.{◌≡◌, List, [], ◌∷◌, ℕ, ◌≤◌, ◌<◌, Option, None, Some, length, take}
use Rattle.finite.specs.Lists.{LowestFirst}
use Rattle.drawing.specs.Drawing.{Drawing, mixed_events}
use Rattle.drawing.specs.Conditions.{NoneMixed, Circle, NoCircle}

abbrev pub LowestMixed : Drawing → Option ℕ → Type 0
LowestMixed g None = NoneMixed g
LowestMixed g (Some v) = (v < g.events) × (take 1 (mixed_events g) ≡ v ∷ [])

abbrev pub CircleFound : Drawing → List ℕ → Option ℕ → Type 0
CircleFound g out None = NoCircle g
CircleFound g out (Some k) = (0 < k) × (k ≤ length out) × Circle g (take k out) × LowestFirst (take k out)
