-- `lines::Page::put_lines` meets its contract: the lines of the numbers that went by are written, and there is room for those of the rest. Assumes nothing.
--   first      the pair that comes next, and the bytes behind it
use mathlib.Core.Path.{◌≡◌, sym, ap, subst, ◌∙◌}
use mathlib.Core.List.{List, []}
use Prim.Native.Nat.{ℕ}
use native.Mathlib.Omega.{arith}
use Rattle.std.specs.Slice.Iter.{chunks_exact_rest}
use Rattle.rules.specs.Listing.{each}
use Rattle.lines.specs.Text.{line}
use Rattle.lines.specs.Follow.{numbers, Lined}
use Rattle.lines.proofs.Pages.{put_nothing, put_length, put_as, put_then}
use Rattle.lines.proofs.Each.{First, lines_none, line_and_rest, lined_first, lined_rest}
use borrow.Author.Rules.{rules}
use Rattle.lines.proofs.Page.put_lines.Goals as goal
use Rattle.lines.proofs.Page.put_lines.Goals.{In-Some}

first : (c : In-Some) → First (chunks_exact_rest c.loop-pair.pair-iterator) c.in-Some.pair.now (chunks_exact_rest c.next.new.self)
first c = let s = c.in-Some.ensures.steps.1 in record { parts = s.0; two = s.1 ∙ c.loop-pair.invariant.0 }

pub loop-pair-init : goal.loop-pair-init
loop-pair-init c =
    let a = c.args in
    let rest : chunks_exact_rest c.into_iter-pair-iterator.result ≡ a.body.now = search rules in (
      search rules,
      subst (Lined a.self.now.out.now a.self.now.end a.word.now) (sym rest) c.requires,
      ([], put_nothing _ (omega (arith, c.requires.room)), ap (λ (s : List ℕ). each (line a.word.now) (numbers s)) rest),
    )

pub put_line-requires : goal.put_line-requires
put_line-requires c =
    let f = lined_first (first (goal.at.put_line-requires c).In-Some) c.loop-pair.invariant.1 in
    (f.0, omega (arith, f.1, c.word.ensures))

pub loop-pair-preserved : goal.loop-pair-preserved
loop-pair-preserved c =
    let f = first (goal.at.loop-pair-preserved c).In-Some in
    let v = c.loop-pair.invariant in
    let w = put_as c.put_line.ensures (ap (line c.args.word.now) c.word.ensures) in (
      c.in-Some.ensures.steps.0 ∙ v.0,
      lined_rest f v.1 (put_length c.put_line.ensures) w.wrote.end,
      (_, put_then v.2.1 w, line_and_rest f (line c.args.word.now) v.2.0 _ v.2.2),
    )

pub returns : goal.returns
returns c =
    let v = c.loop-pair.invariant in
    let short = c.in-None.ensures.steps.1.0 in
    put_as v.2.1 (sym (lines_none (line c.args.word.now) v.2.0 _ (omega (arith, short))) ∙ v.2.2)
