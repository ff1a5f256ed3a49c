-- `chart::read_header` meets its contract: each test is asked where all before it passed. Assumes nothing.
use Rattle.rules.specs.Tests.{counts, size}
use Rattle.rules.proofs.Chain.{passes}
use Rattle.chart.proofs.Form.{shape}
use Rattle.chart.proofs.read_header.Goals as goal

pub invariant_of-result : goal.invariant_of-result
invariant_of-result c =
    let s = c.args.bytes.now in
    record { shape = rw c.word-2.ensures (shape s (passes counts s 0 c.counted.result c.if-not-counted.false-raw c.counted.ensures) (passes size s 0 c.sized.result c.if-not-sized.false-raw c.sized.ensures)) }
