-- `lines::Page::put_pair` meets its contract: the event, the corner, the end. Assumes nothing.
use mathlib.Core.Path.{sym}
use mathlib.Core.List.{◌++◌, append_assoc}
use native.Mathlib.Omega.{arith}
use Rattle.rules.specs.Listing.{ascii, decimal}
use Rattle.lines.proofs.Pages.{put_length, put_as, put_then}
use Rattle.lines.proofs.Decimal.{named_short}
use borrow.Author.Rules.{rules}
use Rattle.lines.proofs.Page.put_pair.Goals as goal

pub put_named-requires-2 : goal.put_named-requires-2
unfolding ascii
put_named-requires-2 c =
    let w = c.put_named.ensures in
    (omega (arith, w.wrote.end, put_length w, named_short (ascii "event ") c.args.v (search rules)), search rules)

pub put_text-requires : goal.put_text-requires
unfolding ascii
put_text-requires c =
    let w = c.put_named.ensures in
    let x = c.put_named-2.ensures in
    let event = named_short (ascii "event ") c.args.v (search rules) in
    omega (arith, w.wrote.end, put_length w, x.wrote.end, put_length x, event, named_short (ascii " corner ") c.args.c (search rules))

pub returns : goal.returns
unfolding ascii
returns c =
    let w = put_then c.put_named.ensures c.put_named-2.ensures in
    put_then (put_as w (sym (append_assoc (ascii "event " ++ decimal c.args.v) (ascii " corner ") (decimal c.args.c)))) c.put_text.ensures
