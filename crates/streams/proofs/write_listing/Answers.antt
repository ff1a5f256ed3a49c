-- `streams::write_listing` meets its contract: the text that is handed on is the listing, whole. Assumes nothing.
use Rattle.std.proofs.Common.{◌≡◌, Some}
use Rattle.streams.proofs.Showing.{shown}
use Rattle.streams.proofs.write_listing.Goals as goal

pub write_text-requires-clause-shown : goal.write_text-requires-clause-shown
write_text-requires-clause-shown c =
    let e : c.list_chart.result ≡ Some c.in_ok-size.size = cc c.in_ok-size.ensures.ok_part in
    shown _ _ _ _ (rw e at c.list_chart.ensures)
