-- `rings::one_ring_each` meets its contract: in rings every successor keeps to its event, and all add up. Assumes nothing.
use Rattle.drawing.proofs.Rounds.{rings_kept}
use Rattle.drawing.proofs.Counted.{rings_level}
use Rattle.drawing.specs.Conditions.{Rings}
use Rattle.chart.specs.Charts.{drawn}
use Rattle.rings.proofs.one_ring_each.Goals as goal

pub returns-then-not-all_keep : goal.returns-then-not-all_keep
returns-then-not-all_keep c =
    let none : Rings (drawn c.args.chart.now) → ⊥ = λ R. c.if-not-all_keep.ensures (rings_kept _ R, rings_level _ R) in
    record { says = none; met = λ R. absurd (none R) }
