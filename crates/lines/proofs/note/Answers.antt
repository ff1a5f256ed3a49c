-- `lines::note` meets its contract: the corner is not large, or not the first, or noted. Assumes nothing.
--   known      its event is one of the chart's
use Prim.Native.Nat.{◌<◌}
use native.Mathlib.Omega.{arith}
use Rattle.chart.specs.Charts.{drawn}
use Rattle.lines.proofs.First.{note_small, note_kept, note_new}
use Rattle.lines.proofs.note.Goals as goal
use Rattle.lines.proofs.note.Goals.{After-event_of-v}

known : (c : After-event_of-v) → c.event_of-v.result < (drawn c.args.chart.now).events
known c = omega (arith, c.event_of-v.ensures, c.requires.known c.args.c (omega (arith, c.args.chart.now.shape.darts)))

pub returns-then-labels-c-ne2 : goal.returns-then-labels-c-ne2
returns-then-labels-c-ne2 c = note_small _ _ c.args.c _ c.requires.noted c.if-labels-c-ne2.true

pub returns-then-get-lt65535 : goal.returns-then-get-lt65535
returns-then-get-lt65535 c =
    let e = c.event_of-v in
    note_kept _ _ c.args.c _ c.requires.noted e.result e.ensures (known (goal.at.returns-then-get-lt65535 c).After-event_of-v) (omega (arith, c.get.ensures))

pub returns : goal.returns
returns c =
    let e = c.event_of-v in
    rw c.put.ensures (note_new _ _ c.args.c _ c.requires.noted e.result e.ensures (known (goal.at.returns c).After-event_of-v) (omega (arith, c.args.chart.now.shape.few)) c.if-labels-c-ne2.false (omega (arith, c.get.ensures)))
