-- `faces::visit` meets its contract: the face of d is painted already exactly if its lowest dart is below d. Assumes nothing.
use native.Mathlib.Omega.{arith}
use Rattle.faces.proofs.Looking.{far, pass, paintable, few, add}
use Rattle.faces.proofs.visit.Goals as goal

pub get-requires : goal.get-requires
get-requires c = omega (arith, c.twin.ensures, far c.args.chart.now.shape c.requires)

pub returns-then-get-lt65535 : goal.returns-then-get-lt65535
returns-then-get-lt65535 c = pass c.args.chart.now.shape c.requires _ _ c.twin.ensures c.get.ensures c.if-get-lt65535.true

pub paint-s-requires : goal.paint-s-requires
paint-s-requires c = paintable c.args.chart.now.shape c.requires _ _ c.twin.ensures c.get.ensures c.if-get-lt65535.false

pub note-requires : goal.note-requires
note-requires c = omega (arith, c.paint-s.ensures.1, few c.args.chart.now.shape c.requires _ _ c.twin.ensures c.get.ensures c.if-get-lt65535.false)

pub returns : goal.returns
returns c = add c.args.chart.now.shape c.requires _ _ c.twin.ensures c.get.ensures c.if-get-lt65535.false _ c.paint-s.ensures.0 _ _ c.paint-s.ensures.1 c.note.ensures
