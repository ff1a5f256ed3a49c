-- `places::find_places` meets its contract: all sources and sinks are placed, or one has no place. Assumes nothing.
use mathlib.Core.Path.{◌∙◌, ap}
use Prim.Native.Nat.{ℕ}
use lib.ListN.{replicate}
use Rattle.places.proofs.Ends.{begin, found_labels, found_cut}
use Rattle.places.proofs.find_places.Goals as goal

pub place_all-cut-requires : goal.place_all-cut-requires
place_all-cut-requires c =
    let p = c.requires in
    begin c.args.chart.now.shape p.0 (c.fill.ensures.after (λ y e. e) ∙ ap (λ (k : ℕ). replicate k 65535) p.1)

pub returns-then-is_none : goal.returns-then-is_none
returns-then-is_none c = found_labels c.args.chart.now.shape c.requires.0 _ _ c.if-is_none.ensures c.place_all-cut.ensures c.write_labels.ensures

pub returns-else-is_none : goal.returns-else-is_none
returns-else-is_none c = found_cut c.args.chart.now.shape c.requires.0 _ _ c.if-is_none.ensures c.place_all-cut.ensures (c.place_all-cut.auto.list ∙ c.requires.0.poled.size)
