-- `rooms::pole_table` meets its contract: the flags of all darts of an event tell whether it is a source or a sink. Assumes nothing.
use mathlib.Core.Path.{refl}
use Rattle.rooms.proofs.Flagging.{poled}
use Rattle.rooms.proofs.pole_table.Goals as goal

pub returns : goal.returns
returns c = poled _ _ _ _ _ c.args.chart.now.shape c.mark_heads.ensures c.decide.ensures refl
