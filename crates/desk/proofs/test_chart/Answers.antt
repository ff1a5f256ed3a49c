-- `desk::test_chart` meets its contract: too little room, a fault of the form, or the rest. Assumes nothing.
use native.Mathlib.Omega.{arith}
use Rattle.chart.specs.Form.{form_tests}
use Rattle.survey.proofs.Entry.{form_formed}
use Rattle.desk.specs.Stretch.{drawn_tests}
use Rattle.findings.proofs.Running.{silent_run, run_before, run_after}
use Rattle.desk.proofs.Running.{form_small, room_outcome, short_outcome, some_file}
use Rattle.desk.proofs.test_chart.Goals as goal

pub returns-then-report-lt-REPORT_ROOM : goal.returns-then-report-lt-REPORT_ROOM
returns-then-report-lt-REPORT_ROOM c = short_outcome _ _ (omega (arith, c.if-report-lt-REPORT_ROOM.true))

pub test_sized-requires : goal.test_sized-requires
test_sized-requires c = let good = c.in-Ok.ensures in (rw good.bytes (form_formed _ good.number), omega (arith, c.if-report-lt-REPORT_ROOM.false))

pub returns-in-Ok : goal.returns-in-Ok
returns-in-Ok c =
    let good = c.in-Ok.ensures in
    room_outcome _ _ _ _ _ (omega (arith, c.if-report-lt-REPORT_ROOM.false)) (run_after form_tests drawn_tests _ _ _ _ _ good.number (rw good.bytes at c.test_sized.ensures))

pub returns-in-Err : goal.returns-in-Err
returns-in-Err c =
    let some = some_file c.in-Err.fault in
    let g = c.in-Err.ensures.number in
    rw c.number-number.ensures
    (room_outcome _ _ _ _ _ (omega (arith, c.if-report-lt-REPORT_ROOM.false))
    (run_before form_tests drawn_tests _ _ _ _ _ some (silent_run form_tests _ _ _ g some (omega (arith, form_small _ _ g)))))
