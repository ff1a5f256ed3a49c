-- `lines::Page::put_entry` meets its contract: nothing, or the event's line. Assumes nothing.
use mathlib.Core.Path.{sym}
use Prim.Native.Nat.{◌≤◌}
use native.Mathlib.Omega.{arith}
use Rattle.words.specs.Tables.{nth}
use Rattle.lines.proofs.Pages.{put_nothing, put_as}
use Rattle.lines.proofs.Each.{entry-none}
use Rattle.lines.proofs.Page.put_entry.Goals as goal

pub returns-else-c-lt65535 : goal.returns-else-c-lt65535
returns-else-c-lt65535 c =
    let none : 65535 ≤ nth c.args.large.now c.args.v = omega (arith, c.get-c.ensures) in
    put_as (put_nothing _ (omega arith)) (sym (entry-none c.args.large.now c.args.v none))
