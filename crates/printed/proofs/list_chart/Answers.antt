-- `printed::list_chart` meets its contract: a run of the test in a full room, and the text printed from the part of the report that it wrote. Assumes nothing.
use native.Mathlib.Omega.{arith}
use Rattle.printed.proofs.Telling.{part_reported, listed_full}
use borrow.Author.Rules.{rules}
use Rattle.printed.proofs.list_chart.Goals as goal

pub write_listing-size-requires : goal.write_listing-size-requires
write_listing-size-requires c = (part_reported _ _ _ _ c.test_chart-number.ensures, search rules)

pub returns : goal.returns
returns c = listed_full _ _ _ _ c.test_chart-number.ensures _ _ _ (omega (arith, c.if-out-lt36864.false)) c.write_listing-size.ensures
