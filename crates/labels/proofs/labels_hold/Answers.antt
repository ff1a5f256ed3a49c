-- `labels::labels_hold` meets its contract: the three checks decide. Assumes nothing.
use Rattle.finite.proofs.Yes.{says_yes, says_no, says_as}
use Rattle.labels.proofs.Deciding.{says_same, labels_suit, labels_yes, labels_events, labels-faces}
use Rattle.labels.proofs.labels_hold.Goals as goal

pub returns-then-not-all_suit : goal.returns-then-not-all_suit
returns-then-not-all_suit c = λ L.
    let p = c.requires in
    c.if-not-all_suit.ensures (labels_suit c.args.chart.now.shape.darts c.args.chart.now.shape.even p.known.1.0 p.known.1.1 p.outer_known.1.0 p.outer_known.1.1 _ p.body_len.0 L)

pub returns-else-eq : goal.returns-else-eq
returns-else-eq c =
    let p = c.requires in
    rw c.if-eq.false (λ L. says_no c.if-eq.false (says_same _ _ _ c.eq.ensures)
    (labels_events c.args.chart.now.shape.darts c.args.chart.now.shape.even p.known.1.0 p.known.1.1 p.outer_known.1.0 p.outer_known.1.1 _ p.body_len.0 c.count_larges.ensures L))

pub returns-then-eq : goal.returns-then-eq
returns-then-eq c =
    let p = c.requires in
    says_as c.eq-then-eq.result
    (labels_yes c.args.chart.now.shape.darts c.args.chart.now.shape.even p.known.1.0 p.known.1.1 p.outer_known.1.0 p.outer_known.1.1 _ p.body_len.0 c.count_larges.ensures p.outer_known.0
    c.if-not-all_suit.ensures (says_yes c.if-eq.true (says_same _ _ _ c.eq.ensures)))
    (labels-faces c.args.chart.now.shape.darts c.args.chart.now.shape.even p.known.1.0 p.known.1.1 p.outer_known.1.0 p.outer_known.1.1 _ p.body_len.0 c.count_larges.ensures)
    (says_same _ _ _ c.eq-then-eq.ensures)
