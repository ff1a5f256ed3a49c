-- `rings::reach` meets its contract: the worklist ends when the ring of each event marked has been followed. Assumes nothing.
use mathlib.Core.Path.{refl, sym, ◌∙◌}
use Rattle.rings.proofs.Reaching.{ready_first, opened, ready, refused, onward, followed}
use Rattle.rings.proofs.reach.Goals as goal

pub push-requires : goal.push-requires
push-requires c = let p = c.requires in ready_first c.args.chart.now.shape p.0 _ _ _ p.1 refl p.2

pub loop-head-init : goal.loop-head-init
loop-head-init c = record { lent = (refl, refl); closing = opened c.args.chart.now.shape c.requires.0 _ _ _ _ _ c.push.ensures.pushed }

pub round-requires : goal.round-requires
round-requires c = ready c.args.chart.now.shape c.requires.0 _ _ _ _ _ c.loop-head.invariant.closing c.loop-head-test.true _ c.from-s.ensures

pub returns-in_err-met : goal.returns-in_err-met
returns-in_err-met c =
    rw c.from_residual.ensures
    (refused c.args.chart.now.shape c.requires.0 _ _ _ _ _ c.loop-head.invariant.closing c.loop-head-test.true _ c.from-s.ensures c.in_err-met.ensures.rounded.0)

pub loop-head-preserved : goal.loop-head-preserved
loop-head-preserved c =
    let l = c.loop-head.invariant in
    let r = c.in_ok-met.ensures in
    record {
      lent = (r.lent.0 ∙ l.lent.0, r.lent.1 ∙ l.lent.1);
      closing = onward c.args.chart.now.shape c.requires.0 _ _ _ _ _ l.closing c.loop-head-test.true _ c.from-s.ensures _ _ _ _ r.rounded;
    }

pub returns : goal.returns
returns c =
    rw (c.first-1.given.1.1 (sym (c.loop-head.invariant.lent.0 ∙ c.push.ensures.lent.0)))
    (followed c.args.chart.now.shape c.requires.0 _ _ _ _ _ c.loop-head.invariant.closing c.loop-head-test.false)
