-- `rings::joins_all` meets its contract: all events are joined exactly if each has a mark. Assumes nothing.
use Rattle.finite.proofs.Yes.{says_as}
use Rattle.rings.proofs.Whole.{all_joined, joined_all}
use Rattle.rings.proofs.joins_all.Goals as goal

pub returns : goal.returns
returns c =
    let p = c.requires in
    let S = c.args.chart.now.shape in
    says_as c.all_marked.result (all_joined S p.0 _ p.1) (joined_all S p.0 _ p.1) c.all_marked.ensures
