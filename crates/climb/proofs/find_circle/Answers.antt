-- `climb::find_circle` meets its contract: all events gone climb, and among those left there is a circle. Assumes nothing.
--   left      the function's entry, from where events are left; and what holds there
use native.Mathlib.Omega.{arith}
use Rattle.chart.specs.Charts.{drawn}
use Rattle.rules.proofs.Bytes.{darts_even}
use Rattle.climb.specs.Back.{Kept}
use Rattle.climb.proofs.Ends.{peeled_none, peeled_kept}
use Rattle.climb.proofs.find_circle.Goals as goal
use Rattle.climb.proofs.find_circle.Goals.{Else-first-gone}

left : (c : Else-first-gone) → Kept (drawn c.args.chart.now) c.peel_all-gone.new.left
left c =
    let p = c.requires.known in
    peeled_kept _ p.0 _ _ _ c.peel_all-gone.ensures (darts_even _) (omega (arith, c.if-first-gone.false, p.2.size))

pub returns-then-first-gone : goal.returns-then-first-gone
returns-then-first-gone c =
    let p = c.requires.known in
    (peeled_none _ p.0 _ _ _ c.peel_all-gone.ensures (omega (arith, p.2.size)))

pub circle_in-requires-clause-known : goal.circle_in-requires-clause-known
circle_in-requires-clause-known c = let p = c.requires.known in (p.0, left (goal.at.circle_in-requires-clause-known c).Else-first-gone)

pub circle_in-requires-else-left-le32-clause-known : goal.circle_in-requires-else-left-le32-clause-known
circle_in-requires-else-left-le32-clause-known c = let p = c.requires.known in (p.0, left (goal.at.circle_in-requires-else-left-le32-clause-known c).Else-first-gone)
