-- `survey::check_faces` meets its contract: there are no more faces than darts. Assumes nothing.
use Rattle.std.proofs.Common.{arith}
use Rattle.chart.specs.Charts.{drawn}
use Rattle.chart.proofs.Keys.{faces_few}
use Rattle.survey.proofs.check_faces.Goals as goal

pub is_planar-requires : goal.is_planar-requires
is_planar-requires c =
    let s = c.args.chart.now.shape in
    omega (arith, c.face_walk-f.ensures.1, faces_few (drawn c.args.chart.now), s.few, s.darts)
