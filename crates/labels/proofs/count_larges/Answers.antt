-- `labels::count_larges` meets its contract: the corners below c are counted. Assumes nothing.
use Rattle.labels.proofs.Counting.{counted_none}
use Rattle.labels.proofs.count_larges.Goals as goal

pub loop-c-init : goal.loop-c-init
loop-c-init c =
    let p = c.requires.body_len in
    counted_none _ _ _ _ _ _ _ p.1.0 p.1.1 (c.fill.ensures.after (λ y h. h)) (c.fill-2.ensures.after (λ y h. h))
