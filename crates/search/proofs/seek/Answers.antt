-- `search::seek` meets its contract: the search gives the way or a crowd. Assumes nothing.
use mathlib.Core.Path.{sym}
use native.Mathlib.Omega.{arith}
use Rattle.placing.proofs.Listing.{held_in, held_size, held_lists}
use Rattle.search.proofs.seek.Goals as goal

-- what is listed
pub slice_bounds-clear-end : goal.slice_bounds-clear-end
slice_bounds-clear-end c = let found = c.in-Break.ensures.answer in omega (arith, held_in found.held, found.stop.1)

pub slice_bounds-clear-end-2 : goal.slice_bounds-clear-end-2
slice_bounds-clear-end-2 c = let found = c.in-Break.ensures.answer in rw found.stop.1 (sym (held_size found.held))

pub clear-requires : goal.clear-requires
clear-requires c = let found = c.in-Break.ensures.answer in rw found.stop.1 (held_lists found.held)

pub overflow_add-i : goal.overflow_add-i
overflow_add-i c =
    let found = c.in-Break.ensures.answer in
    omega (arith, held_in found.held, found.stop.1, found.held.vias, found.held.ranks, c.requires.asks.board.keyed.size, c.args.chart.now.shape.darts, c.args.chart.now.shape.few)
