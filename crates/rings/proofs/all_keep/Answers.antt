-- `rings::all_keep` meets its contract: every dart of the arrows below a is followed by a dart of its event, and total is the sum of these. Assumes nothing.
--   both, room             what holds after both darts of an arrow
use mathlib.Core.Path.{refl}
use Prim.Native.Nat.{◌+◌, ◌*◌, ◌≤◌}
use native.Mathlib.Omega.{arith}
use Rattle.chart.specs.Charts.{drawn}
use Rattle.rings.proofs.Laws.{Steady, steady_start, steady_on, steady_few, steady_at, steady_done}
use Rattle.rings.proofs.all_keep.Goals as goal
use Rattle.rings.proofs.all_keep.Goals.{Else-not-keeps-2, After-loop-a}

-- both darts of the arrow keep to their events
both : (c : Else-not-keeps-2) → Steady (drawn c.args.chart.now) (2 * (c.loop-a.a + 1)) (c.loop-a.total + (c.next_of-b.result + c.next_of-c.result))
both c =
    let on = steady_on _ _ _ c.loop-a.invariant _ _ c.next_of-b.ensures c.if-not-keeps.ensures c.next_of-c.ensures c.if-not-keeps-2.ensures in
    steady_at _ _ _ on _ _ (omega arith) refl

room : (c : Else-not-keeps-2) → c.loop-a.total + (c.next_of-b.result + c.next_of-c.result) ≤ 6144 * 6146
room c =
    let p = c.args.chart.now.shape in
    omega (arith, steady_few (drawn c.args.chart.now) _ _ (both c) (omega (arith, p.darts, p.few)), c.loop-a-test.true, p.few)

-- all darts do, behind the loop
whole : (c : After-loop-a) → Steady (drawn c.args.chart.now) c.args.chart.now.darts c.loop-a.total
whole c = steady_at _ _ _ c.loop-a.invariant _ _ (omega (arith, c.args.chart.now.shape.even)) refl

few : (c : After-loop-a) → c.loop-a.total ≤ 6144 * 6144
few c = omega (arith, steady_few _ _ _ (whole c) (omega (arith, c.args.chart.now.shape.darts, c.args.chart.now.shape.few)), c.args.chart.now.shape.few)

pub loop-a-init : goal.loop-a-init
loop-a-init c = steady_start _

pub overflow_add-total-in-loop-a : goal.overflow_add-total-in-loop-a
overflow_add-total-in-loop-a c = omega (arith, room (goal.at.overflow_add-total-in-loop-a c).Else-not-keeps-2)

pub loop-a-preserved : goal.loop-a-preserved
loop-a-preserved c = both (goal.at.loop-a-preserved c).Else-not-keeps-2

pub overflow_mul-result : goal.overflow_mul-result
overflow_mul-result c = omega (arith, few c)

pub overflow_add-result : goal.overflow_add-result
overflow_add-result c = omega (arith, few c, c.args.chart.now.shape.few)

pub returns : goal.returns
returns c = steady_done _ _ _ (whole c) c.args.chart.now.shape.darts
