-- `rings::Worklist::round` meets its contract: e is where the walk from s has come to after k steps, and the far ends so far are marked. Assumes nothing.
use native.Mathlib.Omega.{arith}
use mathlib.Core.Path.{refl}
use Rattle.rings.proofs.Rounding.{begin, small, ready, turn, done}
use Rattle.rings.proofs.Worklist.round.Goals as goal

pub loop-steps-init : goal.loop-steps-init
loop-steps-init c = record { lent = (refl, refl); going = begin c.args.chart.now.shape c.requires }

pub twin-requires : goal.twin-requires
twin-requires c = let S = c.args.chart.now.shape in omega (arith, small S c.requires _ _ _ _ _ c.loop-steps.invariant.going, S.few)

pub push-requires : goal.push-requires
push-requires c = ready c.args.chart.now.shape c.requires _ _ _ _ _ c.loop-steps.invariant.going _ c.twin.ensures

pub next_of-e-requires : goal.next_of-e-requires
next_of-e-requires c = small c.args.chart.now.shape c.requires _ _ _ _ _ c.loop-steps.invariant.going

pub returns-then-e-s-clause-rounded : goal.returns-then-e-s-clause-rounded
returns-then-e-s-clause-rounded c =
    let step = c.push.ensures.pushed in
    let next = c.next_of-e.ensures in
    let on = c.loop-steps.invariant.going in
    done c.args.chart.now.shape c.requires _ _ _ _ _ on _ c.twin.ensures _ _ _ _ step next c.if-e-s.true _ (omega (arith, c.loop-steps-test.true))

pub loop-steps-preserved : goal.loop-steps-preserved
loop-steps-preserved c =
    let step = c.push.ensures.pushed in
    let next = c.next_of-e.ensures in
    let on = c.loop-steps.invariant.going in
    record { lent = ((cc), (cc)); going = turn c.args.chart.now.shape c.requires _ _ _ _ _ on _ c.twin.ensures _ _ _ _ step next c.if-e-s.false }
