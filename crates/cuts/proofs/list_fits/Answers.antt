-- `cuts::list_fits` meets its contract: the entries passed ascend, are all marked, and nothing else is (Marking). Assumes nothing.
use mathlib.Core.Path.{refl, sym, ◌∙◌}
use Prim.Native.Nat.{◌/◌}
use native.Mathlib.Omega.{arith}
use lib.ListN.{length}
use Rattle.finite.proofs.Yes.{says_unless, says_still}
use Rattle.rules.proofs.Bytes.{words-length}
use Rattle.cuts.proofs.Marking.{says_there, reads, step, done, sinking, other}
use Rattle.cuts.proofs.list_fits.Goals as goal
use Rattle.cuts.proofs.list_fits.Goals.{then-e-from-via-then-e-from, then-e-from-via-else-e-from+then-ne}

pub returns-then-e-from : goal.returns-then-e-from
returns-then-e-from c =
    let n = reads _ _ _ _ c.loop-i-test.true c.word-e.ensures in
    elim c.then-e-from.branch [
      | then-e-from-via-then-e-from w ↦ sinking _ _ _ _ _ c.loop-i.invariant _ n w.if-e-from.true
      | then-e-from-via-else-e-from+then-ne w ↦
          let t = w.get.ensures.lookup in
          other _ _ _ _ _ c.loop-i.invariant _ n w.if-e-from.false (says_unless _ (sym w.ne.ensures ∙ w.if-ne.true) (says_there _ _ _ _ t.0 t.1))
    ]

pub loop-i-preserved : goal.loop-i-preserved
loop-i-preserved c =
    let t = c.get.ensures.lookup in
    step _ _ _ _ _ c.loop-i.invariant _ (reads _ _ _ _ c.loop-i-test.true c.word-e.ensures) c.if-e-from.false (says_still _ (sym c.ne.ensures ∙ c.if-ne.false) (says_there _ _ _ _ t.0 t.1)) _ refl

pub returns : goal.returns
returns c =
    let b = c.args.body.now in
    done _ _ _ _ _ c.loop-i.invariant (omega (arith, words-length b 0 (length b / 2)))
