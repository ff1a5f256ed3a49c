-- `lines::Page::put_words` meets its contract: each arm gives the words of its number, and names what follows. Assumes nothing.
--   said      so it is where the arms join
use mathlib.Core.Path.{◌≡◌, ap}
use mathlib.Core.Logic.{inl, inr}
use native.Mathlib.Omega.{arith}
use lib.ListN.{length}
use Rattle.rules.specs.Listing.{saying, ascii}
use Rattle.lines.specs.Kinds.{Follows}
use Rattle.lines.proofs.Pages.{put_as}
use Rattle.lines.proofs.Said.{saying_short, words_at}
use Rattle.lines.proofs.Page.put_words.Goals as goal
use Rattle.lines.proofs.Page.put_words.Goals.{Joined-number, in-0, in-1, in-9, in-10, in-11, in-12, in-13, in-2-to-8, in_default}

said : (c : Joined-number) → (c.match-number.kind.0.now ≡ saying c.args.number) × Follows c.match-number.kind.1 c.args.number
unfolding saying ascii
said c = elim c.match-number.branch [
  | in-0 w ↦ rw w.kind-is (words_at 0 w.in-0.is, w.in-0.is)
  | in-1 w ↦ rw w.kind-is (words_at 1 w.in-1.is, (omega arith, omega arith))
  | in-2-to-8 w ↦ rw w.kind-is (w.fault_words.ensures, (omega arith, omega arith))
  | in-9 w ↦ rw w.kind-is (words_at 9 w.in-9.is, (omega arith, omega arith))
  | in-10 w ↦ rw w.kind-is (words_at 10 w.in-10.is, (omega arith, omega arith))
  | in-11 w ↦ rw w.kind-is (words_at 11 w.in-11.is, (omega arith, omega arith))
  | in-12 w ↦ rw w.kind-is (words_at 12 w.in-12.is, inl w.in-12.is)
  | in-13 w ↦ rw w.kind-is (words_at 13 w.in-13.is, w.in-13.is)
  | in_default w ↦ let e : c.args.number ≡ 14 = omega arith in rw w.kind-is (words_at 14 e, (inr e))
]

pub put_text-requires : goal.put_text-requires
put_text-requires c = omega (arith, ap length (said (goal.at.put_text-requires c).Joined-number).0, saying_short c.args.number (omega arith))

pub returns : goal.returns
returns c =
    let s = said (goal.at.returns c).Joined-number in
    (put_as c.put_text.ensures s.0, s.1)
