-- `search::FaceList::search` meets its contract: all listed faces are full, and the list goes on from each, up to a face with room. Assumes nothing.
use native.Mathlib.Omega.{arith}
use mathlib.Core.Path.{sym, ◌∙◌}
use Prim.Native.Nat.{◌≤◌, ◌<◌}
use lib.ListN.{length}
use Rattle.chart.specs.Charts.{drawn}
use Rattle.chart.proofs.Keys.{faces_few}
use Rattle.placing.proofs.Boards.{here_into}
use Rattle.placing.proofs.Listing.{held_none}
use Rattle.placing.proofs.Finds.{way_start, via_in, way_step, search_step, stuck}
use Rattle.search.proofs.FaceList.search.Goals as goal
use Rattle.search.proofs.FaceList.search.Goals.{In-loop-h}

pub touch-requires : goal.touch-requires
touch-requires c =
    let B = c.requires.asks.board in (
      record {
        board = B;
        valid = c.requires.asks.valid;
        held = rw c.requires.start (held_none (λ d l. omega (arith, here_into B d (omega (arith, B.keyed.size)), c.requires.asks.fresh.ranks)) (omega (arith, c.requires.asks.fresh.ranks, B.keyed.size, faces_few (drawn c.args.seating.now.chart))) (c.requires.asks.fresh.vias ∙ sym c.requires.asks.fresh.ranks) c.requires.asks.fresh.blank);
        ranks = c.requires.asks.fresh.ranks;
      },
      omega (arith, c.requires.asks.inside, c.args.seating.now.chart.shape.darts),
    )

pub returns-in_err-touch-clause-answer : goal.returns-in_err-touch-clause-answer
returns-in_err-touch-clause-answer c =
    let R = rw c.requires.start at c.in_err-touch.ensures.answer in
    record { held = R.grown.held; ranks = R.grown.size ∙ c.requires.asks.fresh.ranks; stop = rw c.from_residual.ensures (way_start _ R, R.last) }

-- the entry is there, and there are few
there : (c : In-loop-h) → (c.loop-h.h < length c.loop-h.self.via.now) × (length c.loop-h.self.via.now ≤ c.args.seating.now.chart.darts)
there c = (
  via_in c.requires.asks.board c.requires.asks.valid c.loop-h.invariant.search c.loop-h-test.true,
  omega (arith, c.loop-h.invariant.search.held.vias, c.loop-h.invariant.search.held.ranks, c.requires.asks.board.keyed.size, c.args.seating.now.chart.shape.darts),
)

pub bounds-self-h : goal.bounds-self-h
bounds-self-h c = omega (arith, there c)

pub offset_bounds-self-h : goal.offset_bounds-self-h
offset_bounds-self-h c = omega (arith, there c, c.args.seating.now.chart.shape.few)

pub returns-in_err-scan-clause-answer : goal.returns-in_err-scan-clause-answer
returns-in_err-scan-clause-answer c =
    let R = c.in_err-scan.ensures.answer in
    record {
      held = R.grown.held;
      ranks = R.grown.size ∙ c.loop-h.invariant.search.ranks;
      stop = rw c.from_residual-in_err-scan.ensures (way_step c.requires.asks.board c.requires.asks.valid c.loop-h.invariant.search c.loop-h-test.true c.from-c.ensures R, R.last);
    }

pub loop-h-smaller : goal.loop-h-smaller
loop-h-smaller c = omega (arith, there (goal.at.loop-h-smaller c).In-loop-h)

pub loop-h-preserved : goal.loop-h-preserved
loop-h-preserved c = record { search = search_step c.requires.asks.board c.requires.asks.valid c.loop-h.invariant.search c.loop-h-test.true c.from-c.ensures c.in_ok-scan.ensures.answer; same = (cc, cc) }

pub returns-clause-answer : goal.returns-clause-answer
returns-clause-answer c = record {
  held = c.loop-h.invariant.search.held;
  ranks = c.loop-h.invariant.search.ranks;
  stop = stuck c.requires.asks.board c.requires.asks.valid c.loop-h.invariant.search c.loop-h-test.false (c.requires.asks.board.known c.args.first c.requires.asks.inside) c.requires.asks.free;
}
