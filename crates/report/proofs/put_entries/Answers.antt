-- `report::put_entries` meets its contract: the first i numbers stand behind the place of the header. Assumes nothing.
use mathlib.Core.Path.{ap₂, ◌∙◌}
use mathlib.Core.List.{List}
use Prim.Native.Nat.{ℕ, ◌+◌, ◌*◌}
use borrow.Author.Rules.{rules}
use Rattle.words.specs.Tables.{with_word}
use Rattle.report.proofs.Laws.{behind_none, behind_more}
use Rattle.report.proofs.put_entries.Goals as goal

pub loop-i-init : goal.loop-i-init
loop-i-init c = behind_none c.args.report.now c.args.list.now

pub loop-i-preserved : goal.loop-i-preserved
loop-i-preserved c =
    let l = c.loop-i in
    let a = c.args in
    c.put_word.ensures
    ∙ ap₂ (λ (s : List ℕ) (v : ℕ). with_word s (8 + 2 * l.i) v) l.invariant c.from.ensures
    ∙ behind_more a.report.now a.list.now l.i (search rules) (search rules)
