-- `desk::drawn_within` meets its contract: a chart of N darts and V events at most fits into its tables. Assumes nothing.
use mathlib.Core.Path.{◌∙◌}
use Rattle.std.proofs.lemmas.List.{take-replicate}
use Rattle.desk.proofs.Running.{order_run, past_run, some_drawn}
use Rattle.desk.proofs.drawn_within.Goals as goal

pub returns-in-Err : goal.returns-in-Err
returns-in-Err g c = rw c.number.ensures (order_run _ _ _ (some_drawn c.in-Err.fault) c.in-Err.ensures.number)

pub test_later-requires-clause-unused : goal.test_later-requires-clause-unused
test_later-requires-clause-unused g c =
    let f = c.requires.fits in (
      take-replicate _ _ _ f.0,
      c.check_order.auto.list ∙ c.requires.unused.1,
      rw c.event_count-v.ensures (take-replicate _ _ _ f.1),
    )

pub returns : goal.returns
returns g c = past_run _ _ _ _ _ c.in_default.ensures.number c.test_later.ensures
