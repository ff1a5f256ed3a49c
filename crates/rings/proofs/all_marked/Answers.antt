-- `rings::all_marked` meets its contract: as many ones are added up as there are marks, and these are all entries or not. Assumes nothing.
use Rattle.std.proofs.Common.{refl, arith, rules}
use Rattle.std.proofs.lemmas.Iterator.{YieldsList-from_slice, YieldsList-from_map}
use Rattle.std.proofs.lemmas.Iterator.Consumers.{sum_by_from_yields_List, fits_by_from_yields_list}
use Rattle.rings.proofs.Whole.{one, one_for, marks_few, says_all}
use Rattle.rings.proofs.all_marked.Goals as goal

pub returns : goal.returns
returns c = says_all c.args.first.now _
    (sum_by_from_yields_List one c.args.first.now c.map.result _ c.sum-marks.ensures.ran
    (YieldsList-from_map _ one (YieldsList-from_slice c.args.first.now cc) c.map.ensures.closure (λ x r q k. (refl, search (rules, one_for))))) (λ j. omega (arith, c.type_inv.first j))

pub sum-marks-requires-clause-fits : goal.sum-marks-requires-clause-fits
sum-marks-requires-clause-fits c =
    fits_by_from_yields_list one c.args.first.now c.map.result _
    (YieldsList-from_map _ one (YieldsList-from_slice c.args.first.now cc) c.map.ensures.closure (λ x r q k. (refl, search (rules, one_for))))
    (omega (arith, c.iter.ensures.bound, marks_few c.args.first.now))
