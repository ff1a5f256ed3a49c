-- `climb::enter` meets its contract. Assumes nothing.
use mathlib.Core.Path.{ap}
use native.Mathlib.Omega.{arith}
use Rattle.words.specs.Tables.{nth}
use Rattle.climb.specs.Back.{live, dead}
use Rattle.climb.proofs.enter.Goals as goal

pub returns-then-get-lt1 : goal.returns-then-get-lt1
returns-then-get-lt1 c = dead (λ t h. absurd (omega (arith, c.if-get-lt1.true, c.get.ensures, ap (nth c.args.left.now) c.event_of.ensures)))

pub returns-then-get-lt1-2 : goal.returns-then-get-lt1-2
returns-then-get-lt1-2 c = dead (λ t h. absurd (omega (arith, c.if-get-lt1-2.true, c.get-2.ensures, ap (nth c.args.left.now) c.event_of-h.ensures)))

pub returns : goal.returns
returns c = rw (c.put.ensures, c.event_of-h.ensures) (live (omega (arith, c.if-get-lt1.false, c.get.ensures, ap (nth c.args.left.now) c.event_of.ensures)) (omega (arith, c.if-get-lt1-2.false, c.get-2.ensures, ap (nth c.args.left.now) c.event_of-h.ensures)))
