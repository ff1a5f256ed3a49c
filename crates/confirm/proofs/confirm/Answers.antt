-- `confirm::confirm` meets its contract: the stretch written lies within the report, and the judge confirms it. Assumes nothing.
use native.Mathlib.Omega.{arith}
use Rattle.confirm.proofs.Running.{stretch_within, run_confirmed}
use Rattle.confirm.proofs.confirm.Goals as goal

pub slice_bounds-judge-end : goal.slice_bounds-judge-end
slice_bounds-judge-end c = omega (arith, stretch_within _ _ _ _ _ c.test_chart-answer.ensures)

pub returns : goal.returns
returns c = run_confirmed _ _ _ _ _ c.test_chart-answer.ensures c.judge.result c.judge.ensures
