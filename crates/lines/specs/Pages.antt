-- A page that text is put on. Assumes nothing.
--   Put p t q       the page p became q, with the text t behind what was written; it is a page of the same bytes
use Rattle.std.specs.Prelude.{◌≡◌, List, ℕ}
use Rattle.lines.specs.declared.Page.{Page}
use Rattle.lines.specs.Text.{Wrote}

pub record Put (p : Page) (t : List ℕ) (q : Page) : Type 0 where
  pub wrote : Wrote p.out.now p.end t q.out.now q.end
  pub same : q.out.ghost_name ≡ p.out.ghost_name
