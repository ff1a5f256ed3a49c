-- `lines::Page::put_text` meets its contract: the text is copied. Assumes nothing.
use native.Mathlib.Omega.{arith}
use borrow.Author.Rules.{rules}
use Rattle.lines.proofs.Text.{wrote_copied}
use Rattle.lines.proofs.Page.put_text.Goals as goal

pub returns : goal.returns
returns c = record {
  wrote = wrote_copied _ _ _ c.args.self.now.end _ c.requires c.copy_from_slice.ensures.after (omega arith);
  same = search rules;
}
