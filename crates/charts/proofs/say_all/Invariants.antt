use Rattle.std.proofs.Common.{length, ◌-◌, ◌≤◌}
use Rattle.charts.proofs.say_all.Given as goal

abbrev pub invariant-loop-at : goal.invariant-loop-at
invariant-loop-at l = (l.at ≤ length l.input) × (l.k ≤ l.at)

abbrev pub decreases-loop-at : goal.decreases-loop-at
decreases-loop-at l = length l.input - l.at
