-- `rings::steps_back` meets its contract: c is where the walk from d has come to after k steps, without a return on the way. Assumes nothing.
use native.Mathlib.Omega.{arith}
use borrow.Author.Rules.{rules}
use Rattle.finite.proofs.Walk.{walk_start}
use Rattle.chart.specs.Charts.{drawn}
use Rattle.rings.proofs.Laws.{walk_in, walk_back, walk_on}
use Rattle.rings.proofs.steps_back.Goals as goal

pub loop-k-init : goal.loop-k-init
loop-k-init c = (search rules, walk_start _ _)

pub returns-then-c-d : goal.returns-then-c-d
returns-then-c-d c =
    (omega arith, walk_back _ _ _ _ c.loop-k.invariant.1 _ c.next_of-c.ensures c.if-c-d.true)

pub loop-k-preserved : goal.loop-k-preserved
loop-k-preserved c =
    let l = c.loop-k in
    let e = c.next_of-c.ensures in
    (walk_in _ _ c.args.chart.now.shape c.requires.0 _ _ l.invariant.0 e, walk_on (drawn c.args.chart.now) _ _ _ l.invariant.1 _ e c.if-c-d.false)
