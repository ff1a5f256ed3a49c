-- `search::room_near` meets its contract: going round keeps to the event. Assumes nothing.
use native.Mathlib.Omega.{arith}
use Rattle.placing.proofs.Rounds.{round_start, round_step, round_nearer}
use Rattle.search.proofs.room_near.Goals as goal

pub loop-first-init : goal.loop-first-init
loop-first-init c = round_start (omega (arith, c.requires.2, c.args.chart.now.shape.darts))

pub loop-first-smaller : goal.loop-first-smaller
loop-first-smaller c = round_nearer c.requires.0.rings c.loop-first.invariant c.next_of-c.ensures c.if-c-first.false

pub loop-first-preserved : goal.loop-first-preserved
loop-first-preserved c = round_step c.requires.0.rings c.loop-first.invariant c.next_of-c.ensures
