-- `lines::Page::put_number` meets its contract: the number's text is put. Assumes nothing.
--   text      it is the text of itoa
use mathlib.Core.Path.{◌≡◌, sym, ap, ◌∙◌}
use native.Mathlib.Omega.{arith}
use lib.ListN.{length}
use Rattle.rules.specs.Listing.{decimal}
use Rattle.std.specs.Fmt as fmt
use Rattle.lines.proofs.Pages.{put_as}
use Rattle.lines.proofs.Decimal.{decimal_is}
use Rattle.lines.proofs.Page.put_number.Goals as goal
use Rattle.lines.proofs.Page.put_number.Goals.{After-as_bytes-text}

text : (c : After-as_bytes-text) → c.as_bytes-text.result.now ≡ decimal c.args.n
text c = c.as_bytes-text.ensures.value ∙ c.format.ensures.text ∙ ap fmt.decimal (omega arith) ∙ sym (decimal_is c.args.n c.requires.1)

pub put_text-requires : goal.put_text-requires
put_text-requires c = omega (arith, ap length (text (goal.at.put_text-requires c).After-as_bytes-text))

pub returns : goal.returns
returns c = put_as c.put_text.ensures (text (goal.at.returns c).After-as_bytes-text)
