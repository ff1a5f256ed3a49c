-- `survey::check_climb` meets its contract: the lowest mixed event stands first in the list. Assumes nothing.
use Rattle.std.proofs.Common.{arith, refl, sym, ◌∙◌, length, length-set, ◌<◌}
use mathlib.Core.Logic.{inl}
use Rattle.survey.proofs.Evidence.{some_mixed, first_set}
use Rattle.survey.proofs.check_climb.Goals as goal

pub returns-in-Some-clause-number : goal.returns-in-Some-clause-number
returns-in-Some-clause-number c = inl (some_mixed _ _ c.in-Some.ensures.1, refl)

pub returns-in-Some-clause-evident : goal.returns-in-Some-clause-evident
returns-in-Some-clause-evident c =
    let w = c.put.ensures in
    let some : 0 < length c.args.list.now = omega (arith, c.requires.unused.0, c.args.chart.now.shape.events) in
    λ _. (rw (w, length-set) (omega (arith, some)), rw w (first_set c.args.list.now _ some ∙ sym c.in-Some.ensures.1))
