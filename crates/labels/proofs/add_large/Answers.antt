-- `labels::add_large` meets its contract: a label that is not large adds nothing. Assumes nothing.
use mathlib.Core.Path.{sym, ap, ◌∙◌}
use Prim.Native.Nat.{ℕ, ◌+◌}
use native.Mathlib.Nat.{add-zero}
use lib.ListN.{set}
use lib.Seq.{set-get_or}
use Rattle.finite.proofs.Sum.{δ-eq, δ_other}
use Rattle.words.specs.Tables.{nth}
use Rattle.labels.proofs.add_large.Goals as goal

pub returns-then-b-eq2 : goal.returns-then-b-eq2
returns-then-b-eq2 c = ap (λ (x : ℕ). set c.args.t.now c.args.key (nth c.args.t.now c.args.key + x)) (sym (δ-eq _ 2 c.if-b-eq2.true))

pub returns-else-b-eq2 : goal.returns-else-b-eq2
returns-else-b-eq2 c = sym (set-get_or c.args.t.now c.args.key 0) ∙ ap (set c.args.t.now c.args.key) (sym (ap (λ (x : ℕ). nth c.args.t.now c.args.key + x) (δ_other _ 2 c.if-b-eq2.false) ∙ add-zero _))
