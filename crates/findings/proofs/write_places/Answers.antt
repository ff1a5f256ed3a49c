-- `findings::write_places` meets its contract: a cut leaves the place of the labels as it was. Assumes nothing.
use mathlib.Core.Path.{◌∙◌}
use Prim.Native.Nat.{◌+◌, ◌-◌, ◌≤◌}
use native.Mathlib.Omega.{arith}
use lib.ListN.{length}
use Rattle.report.proofs.Laws.{part_length}
use Rattle.findings.proofs.Writing.{left_whole, cut_run, labels_run}
use Rattle.findings.proofs.write_places.Goals as goal

pub returns-in-Some : goal.returns-in-Some
returns-in-Some c =
    let cut = c.in-Some.ensures in
    let whole = left_whole c.args.report.now c.find_places.new.labels (8 + c.args.chart.now.darts - 8) cut.2 in
    cut_run _ _ _ _ _ _ c.requires.ready.rings whole cut.1 c.put_list-written.ensures

pub returns : goal.returns
returns c =
    let n = c.args.chart.now.darts in
    let room : 8 + n ≤ length c.args.report.now = omega (arith, c.args.chart.now.shape.few, c.requires.room) in
    let size = c.find_places.auto.labels ∙ part_length c.args.report.now n room in
    labels_run _ c.args.report.now c.find_places.new.labels n _ room size c.in_default.ensures c.put_header.ensures
