-- `lines::Page::put_line` meets its contract: word and number, then the end. Assumes nothing.
use native.Mathlib.Omega.{arith}
use Rattle.rules.specs.Listing.{ascii}
use Rattle.lines.proofs.Pages.{put_length, put_then}
use Rattle.lines.proofs.Decimal.{named_short}
use borrow.Author.Rules.{rules}
use Rattle.lines.proofs.Page.put_line.Goals as goal

pub put_text-requires : goal.put_text-requires
put_text-requires c =
    let w = c.put_named.ensures in omega (arith, w.wrote.end, put_length w, named_short c.args.word.now c.args.x (search rules))

pub returns : goal.returns
unfolding ascii
returns c = put_then c.put_named.ensures c.put_text.ensures
