-- The drawing in a chart. Assumes nothing.
use Rattle.drawing.specs.Drawing.{Drawing}
use Rattle.rules.specs.Chart.{drawing}
use Rattle.chart.specs.declared.tables.Chart.{Chart}

abbrev pub drawn : Chart → Drawing
drawn chart = drawing chart.bytes.now
