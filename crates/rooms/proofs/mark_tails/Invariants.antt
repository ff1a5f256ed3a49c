use Rattle.std.proofs.Common.{◌*◌}
use Rattle.chart.specs.Charts.{drawn}
use Rattle.rooms.specs.Flags.{Flagged}
use Rattle.rooms.proofs.mark_tails.Given as goal

abbrev pub invariant-loop-a : goal.invariant-loop-a
invariant-loop-a l = Flagged (drawn l.chart) (2 * l.a) 0 l.poles
