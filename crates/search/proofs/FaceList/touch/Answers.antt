-- `search::FaceList::touch` meets its contract: a walk round the event lists the face of each corner, up to the return or to a face with room. Assumes nothing.
use native.Mathlib.Omega.{arith}
use mathlib.Core.Path.{refl, sym, ◌∙◌}
use Rattle.drawing.proofs.Rounds.{after_inj}
use Rattle.placing.proofs.Rounds.{circuit_nearer, touch_start, touch_step, touch_done}
use Rattle.search.proofs.FaceList.touch.Goals as goal

pub loop-c-init : goal.loop-c-init
loop-c-init c = record { walk = touch_start c.args.seating.now.spare.now c.requires.0.board (omega (arith, c.requires.1, c.args.seating.now.chart.shape.darts)) c.requires.0.held; same = (refl, refl) }

pub returns-then-c-first-clause-answer : goal.returns-then-c-first-clause-answer
returns-then-c-first-clause-answer c = touch_done _ c.requires.0.board c.loop-c.invariant.walk c.in_ok-add.ensures.answer (sym c.next_of-c.ensures ∙ c.if-c-first.true)

pub loop-c-smaller : goal.loop-c-smaller
loop-c-smaller c = circuit_nearer c.loop-c.invariant.walk (after_inj _ c.requires.0.board.rings) c.requires.0.board.rings.inside c.next_of-c.ensures c.if-c-first.false

pub loop-c-preserved : goal.loop-c-preserved
loop-c-preserved c = record { walk = rw c.next_of-c.ensures (touch_step _ c.requires.0.board c.loop-c.invariant.walk c.in_ok-add.ensures.answer (λ q. c.if-c-first.false (c.next_of-c.ensures ∙ q))); same = (cc, cc) }
