-- What following one ring answers. Assumes nothing.
--   Open g d left           d does not come again within left steps
--   Returned g d left r     d comes again after r steps and not before, within left; or r is none, and it does not within left
use Rattle.std.specs.Prelude.{◌≢◌, ℕ, ◌<◌, ◌≤◌, Option, Some, None}
use Rattle.finite.specs.Steps.{iter}
use Rattle.drawing.specs.Drawing.{Drawing, after}
use Rattle.drawing.proofs.Counted.{Circled}

abbrev pub Open : Drawing → ℕ → ℕ → Type 0
Open g d left = (j : ℕ) → 0 < j → j ≤ left → iter (after g) j d ≢ d

abbrev pub Returned : Drawing → ℕ → ℕ → Option ℕ → Type 0
Returned g d left (Some r) = (r ≤ left) × Circled g d r
Returned g d left None = Open g d left
