-- `report::well_formed` meets its contract: a number in two bytes has 16 bits. Assumes nothing.
use native.Mathlib.Omega.{arith}
use Rattle.rules.specs.Words.{u16}
use Rattle.report.proofs.well_formed.Goals as goal

pub size-requires : goal.size-requires
unfolding u16
size-requires c = let byte = c.type_inv.report in omega (arith, c.word-then-writes.ensures, byte 6, byte 7)
