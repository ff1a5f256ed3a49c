use Prim.Native.Nat.{◌+◌, ◌*◌, ◌≤◌}
use Rattle.lines.specs.Pages.{Put}
use Rattle.lines.specs.Follow.{pairs}
use Rattle.lines.proofs.Page.put_table.Given as goal

abbrev pub invariant-loop-v : goal.invariant-loop-v
invariant-loop-v l = (l.self.end ≤ l.initial.self.end + 23 * l.v) × Put l.initial.self (pairs l.large l.v) l.self
