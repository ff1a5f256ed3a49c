-- `report::put_list` meets its contract: the entries behind the place of the header, then the header. Assumes nothing.
use mathlib.Core.Path.{◌≡◌, sym, ap, ◌∙◌}
use mathlib.Core.List.{List, ◌++◌}
use Prim.Native.Nat.{ℕ, ◌+◌, ◌*◌}
use native.Mathlib.Omega.{arith}
use lib.ListN.{length, drop}
use Rattle.rules.specs.Report.{report}
use Rattle.report.specs.Headers.{header}
use Rattle.report.proofs.Laws.{list_size, list_report, list_length}
use Rattle.report.proofs.put_list.Goals as goal

pub returns : goal.returns
returns c =
    let a = c.args in
    let b = a.report.now in
    let l = a.list.now in
    let L = c.requires in
    let size : 8 + 2 * length l ≡ c.size.result = sym (c.size.ensures ∙ list_size a.res l L.low L.high) in (
      c.put_header.ensures
          ∙ ap (λ (s : List ℕ). header a.res (length l) ++ drop 8 s) c.put_entries.ensures
          ∙ list_report a.res l L.low L.high b (omega (arith, L.fits))
          ∙ ap (λ (k : ℕ). report a.res l ++ drop k b) size,
      sym size ∙ list_length a.res l L.low L.high,
    )
