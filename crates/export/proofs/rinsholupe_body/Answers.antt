-- `export::rinsholupe_body` meets its contract: the start is 8 exactly on good form. Assumes nothing.
use mathlib.Core.Path.{ap}
use native.Mathlib.Omega.{arith}
use lib.ListN.{length}
use Rattle.report.proofs.Good.{form_parts}
use Rattle.export.proofs.Small.{bad_body}
use Rattle.export.proofs.rinsholupe_body.Goals as goal

pub returns-in_default : goal.returns-in_default
returns-in_default c = bad_body _ c.in_default.ensures

pub returns : goal.returns
returns c = rw (form_parts _ _ _ c.in-Some.ensures).0 (omega (arith, ap length c.body_of-body.ensures.result_value))
