-- `places::searches` meets its contract: all are placed, or one has no place. Assumes nothing.
use native.Mathlib.Omega.{arith}
use mathlib.Core.Path.{sym, ◌∙◌}
use Rattle.chart.specs.Charts.{drawn}
use Rattle.chart.proofs.Keys.{faces_few}
use Rattle.placing.proofs.Boards.{here_into}
use Rattle.places.proofs.searches.Goals as goal

pub cut_list-requires : goal.cut_list-requires
cut_list-requires c =
    let board = c.requires.0.board in
    let done = c.settle.ensures in (
      record {
        size = omega (arith, done.ranks, board.keyed.size, faces_few (drawn c.args.chart.now));
        into = λ d l. omega (arith, here_into board d (omega (arith, board.keyed.size)), done.ranks);
      },
      c.requires.0.poled ∙ sym done.events,
      omega (arith, done.events, c.args.chart.now.shape.events.1),
    )
