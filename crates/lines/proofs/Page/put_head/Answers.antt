-- `lines::Page::put_head` meets its contract: four texts, one after the other. Assumes nothing.
use native.Mathlib.Omega.{arith}
use Rattle.rules.specs.Listing.{ascii}
use Rattle.lines.proofs.Pages.{put_length, put_then}
use Rattle.lines.proofs.Decimal.{named_short}
use Rattle.lines.proofs.Said.{saying_short}
use borrow.Author.Rules.{rules}
use Rattle.lines.proofs.Page.put_head.Goals as goal

pub put_text-requires : goal.put_text-requires
unfolding ascii
put_text-requires c =
    let w = c.put_named.ensures in omega (arith, w.wrote.end, put_length w, named_short (ascii "result ") c.args.number (search rules))

pub put_words-kind-requires : goal.put_words-kind-requires
unfolding ascii
put_words-kind-requires c =
    let w = put_then c.put_named.ensures c.put_text.ensures in
    (omega (arith, c.put_named.ensures.wrote.end, c.put_text.ensures.wrote.end, put_length w, named_short (ascii "result ") c.args.number (search rules)), search rules)

pub put_text-requires-2 : goal.put_text-requires-2
unfolding ascii
put_text-requires-2 c =
    let x = c.put_words-kind.ensures.0 in
    let w = put_then (put_then c.put_named.ensures c.put_text.ensures) x in
    let named = named_short (ascii "result ") c.args.number (search rules) in
    omega (arith, c.put_named.ensures.wrote.end, c.put_text.ensures.wrote.end, x.wrote.end, put_length w, named, saying_short c.args.number (search rules))

pub returns : goal.returns
unfolding ascii
returns c = (put_then (put_then (put_then c.put_named.ensures c.put_text.ensures) c.put_words-kind.ensures.0) c.put_text-2.ensures, c.put_words-kind.ensures.1)
