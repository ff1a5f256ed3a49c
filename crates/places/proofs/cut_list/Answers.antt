-- `places::cut_list` meets its contract: the members below v are listed. Assumes nothing.
use native.Mathlib.Omega.{arith}
use mathlib.Core.Path.{◌≡◌, ◌∙◌}
use lib.ListN.{set}
use Rattle.finite.proofs.Yes.{says_yes, says_no}
use Rattle.placing.proofs.Writes.{list_none, list_same, list_more}
use Rattle.places.proofs.cut_list.Goals as goal
use Rattle.places.proofs.cut_list.Goals.{then-in_cut, else-in_cut}

pub loop-v-init : goal.loop-v-init
loop-v-init c = (list_none _ _, omega arith)

pub loop-v-preserved : goal.loop-v-preserved
loop-v-preserved c =
    let loop = c.loop-v in
    elim c.if-in_cut.branch [
      | then-in_cut w ↦
          let e : c.if-in_cut.list ≡ set loop.list loop.k loop.v = w.list-is ∙ w.put.ensures in (
            rw (e, w.k-is) (list_more loop.invariant.0 (omega (arith, says_yes w.if-in_cut.true c.in_cut.ensures)) (omega arith)),
            omega arith,
          )
      | else-in_cut w ↦
          rw (w.list-is, w.k-is) (
            list_same loop.invariant.0 (omega (arith, says_no w.if-in_cut.false c.in_cut.ensures)),
            omega arith,
          )
    ]
