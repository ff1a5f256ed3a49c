-- `export::rinsholupe_form` meets its contract: a result is at most 14, a count has 16 bits. Assumes nothing.
use native.Mathlib.Omega.{arith}
use Rattle.export.proofs.Small.{good_small}
use Rattle.export.proofs.rinsholupe_form.Goals as goal

pub overflow_mul-result : goal.overflow_mul-result
overflow_mul-result c = omega (arith, good_small _ _ _ c.in-Some.ensures (λ i. omega (arith, c.type_inv.report i)))

pub overflow_add-result : goal.overflow_add-result
overflow_add-result c = omega (arith, good_small _ _ _ c.in-Some.ensures (λ i. omega (arith, c.type_inv.report i)))

pub overflow_cast-result : goal.overflow_cast-result
overflow_cast-result c = omega (arith, good_small _ _ _ c.in-Some.ensures (λ i. omega (arith, c.type_inv.report i)))
