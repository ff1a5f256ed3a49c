-- `search::FaceList::scan` meets its contract: a walk round the face visits each corner, up to the return or to a face with room. Assumes nothing.
use native.Mathlib.Omega.{arith}
use mathlib.Core.Path.{refl, sym, ◌∙◌}
use Rattle.placing.proofs.Boards.{turn_inj, turn_into}
use Rattle.placing.proofs.Rounds.{circuit_nearer, scan_start, scan_step, scan_done}
use Rattle.search.proofs.FaceList.scan.Goals as goal

pub loop-c-init : goal.loop-c-init
loop-c-init c = record { walk = scan_start c.args.seating.now.large.now c.args.seating.now.spare.now c.requires.0.board (omega (arith, c.requires.1, c.args.seating.now.chart.shape.darts)) c.requires.0.held; same = (refl, refl) }

pub returns-then-c-first-clause-answer : goal.returns-then-c-first-clause-answer
returns-then-c-first-clause-answer c = scan_done _ _ c.requires.0.board c.loop-c.invariant.walk c.in_ok-visit.ensures.answer (sym c.turn-c.ensures ∙ c.if-c-first.true)

pub loop-c-smaller : goal.loop-c-smaller
loop-c-smaller c = circuit_nearer c.loop-c.invariant.walk (turn_inj c.requires.0.board) (turn_into c.requires.0.board) c.turn-c.ensures c.if-c-first.false

pub loop-c-preserved : goal.loop-c-preserved
loop-c-preserved c = record { walk = rw c.turn-c.ensures (scan_step _ _ c.requires.0.board c.loop-c.invariant.walk c.in_ok-visit.ensures.answer (λ q. c.if-c-first.false (c.turn-c.ensures ∙ q))); same = (cc, cc) }
