-- `lines::Page::put_table` meets its contract: the lines of the events below v are written, in 23 bytes each at most. Assumes nothing.
use native.Mathlib.Omega.{arith}
use Rattle.finite.specs.Sums.{below}
use Rattle.rules.specs.Listing.{each}
use Rattle.lines.proofs.Pages.{put_nothing, put_length, put_as, put_then}
use Rattle.lines.proofs.Each.{pairs_more, entry_short}
use borrow.Author.Rules.{rules}
use Rattle.lines.proofs.Page.put_table.Goals as goal

pub loop-v-init : goal.loop-v-init
unfolding each below
loop-v-init c = (search rules, put_nothing _ (omega arith))

pub put_entry-requires : goal.put_entry-requires
put_entry-requires c = (omega (arith, put_length c.loop-v.invariant.1), search rules)

pub loop-v-preserved : goal.loop-v-preserved
loop-v-preserved c =
    let l = c.loop-v in
    let w = c.put_entry.ensures in
    (omega (arith, w.wrote.end, entry_short c.args.large.now l.v c.requires.1 (search rules)), put_as (put_then l.invariant.1 w) (pairs_more c.args.large.now l.v))
