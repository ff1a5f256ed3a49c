-- `report::put_header` meets its contract: its eight stores are one run of stores. Assumes nothing.
use mathlib.Core.Path.{ap, ◌∙◌}
use mathlib.Core.List.{List, ◌++◌}
use Prim.Native.Nat.{ℕ}
use borrow.Author.Rules.{rules}
use lib.ListN.{set, drop}
use Rattle.words.specs.Tables.{with_word}
use Rattle.report.proofs.Laws.{header_put}
use Rattle.report.proofs.put_header.Goals as goal

pub returns : goal.returns
returns c =
    let a = c.args in
    c.put_word-2.ensures
    ∙ ap (λ (s : List ℕ). with_word (set s 5 a.res) 6 a.count) (c.put_word.ensures ∙ ap (λ (s : List ℕ). with_word (s ++ drop 3 a.report.now) 3 1) c.copy_from_slice.ensures.after)
    ∙ header_put a.report.now a.res a.count (search rules)
