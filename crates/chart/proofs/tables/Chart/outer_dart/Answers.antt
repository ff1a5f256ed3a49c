-- `Chart::outer_dart` meets its contract: the number stands in the header. Assumes nothing.
use Rattle.rules.specs.Chart.{drawing}
use borrow.Author.Rules.{rules}
use Rattle.chart.proofs.tables.Chart.outer_dart.Goals as goal

pub returns : goal.returns
unfolding drawing
returns c = search rules
