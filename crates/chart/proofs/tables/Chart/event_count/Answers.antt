-- `Chart::event_count` meets its contract: the number stands in the header. Assumes nothing.
use Rattle.rules.specs.Chart.{drawing}
use borrow.Author.Rules.{rules}
use Rattle.chart.proofs.tables.Chart.event_count.Goals as goal

pub returns : goal.returns
unfolding drawing
returns c = search rules
