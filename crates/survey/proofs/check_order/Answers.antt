-- `survey::check_order` meets its contract: where the arrows join all events, each has a dart. Assumes nothing.
use Rattle.finite.proofs.Yes.{says_still}
use Rattle.survey.proofs.Evidence.{firsts}
use Rattle.survey.proofs.check_order.Goals as goal

pub returns-clause-firsts : goal.returns-clause-firsts
returns-clause-firsts c =
    let r = c.one_ring_each in
    let j = c.joins_all in
    firsts _ _ c.args.chart.now.shape c.requires.formed.known (says_still j.result c.if-not-joins_all.false-raw j.ensures) _
    (r.ensures.met (says_still r.result c.if-not-one_ring_each.false-raw r.ensures.says))
