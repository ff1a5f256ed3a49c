-- `words::twin` meets its contract. Assumes nothing.
use Rattle.std.proofs.Common.{arith}
use Rattle.drawing.specs.Drawing.{twin}
use Rattle.words.proofs.twin.Goals as goal

pub returns : goal.returns
unfolding twin
returns c = omega arith
