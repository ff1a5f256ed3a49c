-- `Chart::next_of` meets its contract: the second table is the part of the chart after the first. Assumes nothing.
use mathlib.Core.Path.{sym, ◌∙◌}
use Rattle.chart.proofs.Laws.{next_in}
use Rattle.chart.proofs.tables.Chart.next_of.Goals as goal

pub returns : goal.returns
returns c = c.word.ensures ∙ sym (next_in _ _ _ c.args.self.now.shape c.requires)
