-- `places::settle` meets its contract: the poles below e are placed, and no list stands between two searches. Assumes nothing.
use borrow.Author.Rules.{rules}
use Rattle.places.proofs.Turns.{searching_stuck}
use Rattle.places.proofs.settle.Goals as goal

pub returns-then-eq : goal.returns-then-eq
returns-then-eq c = searching_stuck c.loop-e.invariant c.loop-e-test.true _ _ _ _ _ c.house-outcome.ensures (search rules)
