-- `export::rinsholupe_test` meets its contract: no number is above 14, no report above its room. Assumes nothing.
-- The product and the sum fit by both facts, so that a wrong packing is refused by the contract and not by a bound.
use native.Mathlib.Omega.{arith}
use Rattle.desk.proofs.Fits.{outcome_small, outcome_fits}
use Rattle.export.proofs.rinsholupe_test.Goals as goal

pub overflow_mul-result : goal.overflow_mul-result
overflow_mul-result c = omega (arith, outcome_small _ _ _ _ _ c.test_chart-answer.ensures, outcome_fits _ _ _ _ _ c.test_chart-answer.ensures)

pub overflow_add-result : goal.overflow_add-result
overflow_add-result c = omega (arith, outcome_small _ _ _ _ _ c.test_chart-answer.ensures, outcome_fits _ _ _ _ _ c.test_chart-answer.ensures)

pub overflow_cast-result : goal.overflow_cast-result
overflow_cast-result c = omega (arith, outcome_small _ _ _ _ _ c.test_chart-answer.ensures, outcome_fits _ _ _ _ _ c.test_chart-answer.ensures)
