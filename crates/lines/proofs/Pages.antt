-- Laws of text put on a page. Assumes nothing.
use mathlib.Core.Path.{◌≡◌, refl, ◌∙◌}
use mathlib.Core.List.{List, [], ◌++◌}
use Prim.Native.Nat.{ℕ, ◌≤◌}
use lib.ListN.{length}
use Rattle.lines.specs.declared.Page.{Page}
use Rattle.lines.specs.Pages.{Put}
use Rattle.lines.proofs.Text.{wrote_nothing, wrote_as, wrote_then, wrote_length}

pub put_nothing : (p : Page) → p.end ≤ length p.out.now → Put p [] p
put_nothing p l = record { wrote = wrote_nothing p.out.now p.end l; same = refl }

module _ {p q : Page} {t : List ℕ} (a : Put p t q) where
  -- the page has as many bytes as before
  pub put_length : length q.out.now ≡ length p.out.now
  put_length = wrote_length a.wrote

  -- the same text, by another name
  pub put_as : {u : List ℕ} → t ≡ u → Put p u q
  put_as e = record { wrote = wrote_as a.wrote e; same = a.same }

  -- another text behind it
  pub put_then : {u : List ℕ} {r : Page} → Put q u r → Put p (t ++ u) r
  put_then b = record { wrote = wrote_then a.wrote b.wrote; same = b.same ∙ a.same }
