use Rattle.std.proofs.Common.{◌*◌}
use Rattle.chart.specs.Charts.{drawn}
use Rattle.rooms.specs.Flags.{Flagged}
use Rattle.rooms.proofs.mark_heads.Given as goal

abbrev pub invariant-loop-a : goal.invariant-loop-a
invariant-loop-a l = Flagged (drawn l.chart) l.chart.darts (2 * l.a) l.poles
