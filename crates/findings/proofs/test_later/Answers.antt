-- `findings::test_later` meets its contract: a fault with its evidence, or test 14. Assumes nothing.
use native.Mathlib.Omega.{arith}
use Rattle.survey.specs.Past.{later_tests}
use Rattle.findings.specs.Stretch.{last_tests}
use Rattle.findings.proofs.Running.{silent_run, run_before, run_after, listed_fault, silent_fault}
use Rattle.findings.proofs.test_later.Goals as goal

pub returns-in-Mixed : goal.returns-in-Mixed
returns-in-Mixed c =
    let low = listed_fault c.in-Err.fault c.in-Mixed.is in
    let w = c.put_list-written.ensures in
    run_before later_tests last_tests _ _ _ _ _ (λ e. omega (arith, low, c.number-number.ensures))
    (record {
      given = rw c.number-number.ensures c.in-Err.ensures.number;
      entries = _;
      allowed = rw (c.number-number.ensures, c.entries.ensures) (c.in-Err.ensures.evident low).1;
      written = w.1;
      left = w.0;
    })

pub returns-in_default-fault : goal.returns-in_default-fault
returns-in_default-fault c =
    let small = silent_fault c.in-Err.fault c.in_default-fault.not-Mixed c.in_default-fault.not-Circle in
    rw c.number-number.ensures (run_before later_tests last_tests _ _ _ _ _ small.0 (silent_run later_tests _ _ _ c.in-Err.ensures.number small.0 small.1))

pub returns : goal.returns
returns c = run_after later_tests last_tests _ _ _ _ _ c.in_default.ensures.number c.settle.ensures
