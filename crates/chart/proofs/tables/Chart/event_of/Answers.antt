-- `Chart::event_of` meets its contract: the first table stands after the header. Assumes nothing.
use mathlib.Core.Path.{sym, ◌∙◌}
use Rattle.chart.proofs.Laws.{event_in}
use Rattle.chart.proofs.tables.Chart.event_of.Goals as goal

pub returns : goal.returns
returns c = c.word.ensures ∙ sym (event_in _ _ _ c.args.self.now.shape c.requires)
