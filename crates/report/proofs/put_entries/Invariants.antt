use Rattle.std.proofs.Common.{◌≡◌}
use Rattle.report.proofs.Laws.{behind}
use Rattle.report.proofs.put_entries.Given as goal

abbrev pub invariant-loop-i : goal.invariant-loop-i
invariant-loop-i l = l.report ≡ behind l.initial.report l.list l.i
