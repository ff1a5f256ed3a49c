-- `lines::Page::put_named` meets its contract: the word, then the number. Assumes nothing.
use native.Mathlib.Omega.{arith}
use Rattle.lines.proofs.Pages.{put_length, put_then}
use Rattle.lines.proofs.Decimal.{decimal_short}
use borrow.Author.Rules.{rules}
use Rattle.lines.proofs.Page.put_named.Goals as goal

pub put_number-requires : goal.put_number-requires
put_number-requires c =
    let w = c.put_text.ensures in
    (omega (arith, w.wrote.end, put_length w, decimal_short c.args.x (search rules)), search rules)

pub returns : goal.returns
returns c = put_then c.put_text.ensures c.put_number.ensures
