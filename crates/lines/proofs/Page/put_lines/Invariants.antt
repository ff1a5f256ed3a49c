use mathlib.Core.Path.{◌≡◌}
use mathlib.Core.List.{List, ◌++◌}
use Prim.Native.Nat.{ℕ}
use Rattle.std.specs.Slice.Iter.{chunks_exact_rest, chunks_exact_size}
use Rattle.rules.specs.Listing.{each}
use Rattle.lines.specs.Text.{line}
use Rattle.lines.specs.Pages.{Put}
use Rattle.lines.specs.Follow.{numbers, Lined}
use Rattle.lines.proofs.Page.put_lines.Given as goal

abbrev pub invariant-loop-pair : goal.invariant-loop-pair
invariant-loop-pair l =
    (chunks_exact_size l.pair-iterator ≡ 2)
    × Lined l.self.out.now l.self.end l.word (chunks_exact_rest l.pair-iterator)
    × ((t : List ℕ) × Put l.initial.self t l.self
    × (t ++ each (line l.word) (numbers (chunks_exact_rest l.pair-iterator)) ≡ each (line l.word) (numbers l.body)))
