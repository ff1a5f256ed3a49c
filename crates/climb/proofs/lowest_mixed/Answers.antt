-- `climb::lowest_mixed` meets its contract: the first dart at a mixed event. Assumes nothing.
use native.Mathlib.Omega.{arith}
use Prim.Native.Nat.{◌<◌}
use borrow.Author.Rules.{rules}
use borrow.Author.Tests.{tests}
use Rattle.std.proofs.lemmas.Grind.{get_or_default_zero}
use Rattle.std.proofs.lemmas.Iterator.{YieldsList-from_slice, IsFirst-from_position}
use Rattle.std.proofs.lemmas.Iterator.Adapters.{serves_from_places}
use Rattle.chart.specs.Charts.{drawn}
use Rattle.climb.proofs.Mixed.{Turns, Plain, lowest}
use Rattle.climb.proofs.lowest_mixed.Goals as goal

pub position-requires-clause-callable : goal.position-requires-clause-callable
position-requires-clause-callable c = serves_from_places (YieldsList-from_slice c.args.first.now c.iter.ensures.rest) (λ x q r. search rules) (λ x k l e.
    let d : x.now < c.args.chart.now.darts = omega (arith, get_or_default_zero _ k x.now l, c.requires.1.inside k (omega (arith, c.requires.1.size))) in
    search (rules, c.requires))

pub returns : goal.returns
returns c =
    let g = drawn c.args.chart.now in
    lowest g _ c.requires.1 _ (IsFirst-from_position _ _ _ (Turns g) (Plain g) c.position.ensures.ran (YieldsList-from_slice c.args.first.now c.iter.ensures.rest) (λ x q k. search (rules, tests)) (λ x q k. search (rules, tests)))
