-- `rings::follow` meets its contract: an event met before has had its turn; of another the walk from its dart comes back, and its steps are counted, or
-- it cannot be a ring. Assumes nothing.
use Rattle.rings.proofs.Rest.{pass_bare, pass_open, pass_ring}
use Rattle.rings.proofs.follow.Goals as goal

pub returns-then-chart-d : goal.returns-then-chart-d
returns-then-chart-d c =
    let p = c.requires in
    pass_bare c.args.chart.now.shape p.ground _ _ p.first_len.0 p.first_len.1 _ _ p.v_in_bounds.0 p.v_in_bounds.1 p.v_in_bounds.2
    _ c.get.ensures c.if-get-ne65535.false _ c.get-d.ensures c.if-chart-d.true

pub returns-in_err-k : goal.returns-in_err-k
returns-in_err-k c =
    let p = c.requires in
    rw c.from_residual.ensures (pass_open c.args.chart.now.shape p.ground _ _ p.first_len.0 p.first_len.1 _ _ p.v_in_bounds.0 p.v_in_bounds.1 p.v_in_bounds.2
    _ c.get.ensures c.if-get-ne65535.false _ c.get-d.ensures c.if-chart-d.false c.in_err-k.ensures)

pub returns : goal.returns
returns c =
    let p = c.requires in
    pass_ring c.args.chart.now.shape p.ground _ _ p.first_len.0 p.first_len.1 _ _ p.v_in_bounds.0 p.v_in_bounds.1 p.v_in_bounds.2
    _ c.get.ensures c.if-get-ne65535.false _ c.get-d.ensures c.if-chart-d.false _ c.in_ok-k.ensures
