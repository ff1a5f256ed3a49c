-- The part of the text for which a size is answered is the listing of the chart, and nothing else. Assumes nothing.
use Rattle.std.proofs.Common.{◌≡◌, refl, sym, ap, ◌∙◌, List, ◌++◌, append-nil, ℕ, length, take, drop, Some}
use lib.Seq.{take_at, drop-nil}
use Rattle.rules.specs.Chart.{drawing}
use Rattle.rules.specs.Listing.{listing}
use Rattle.printed.specs.Listed.{Told, Listed}
use Rattle.printed.proofs.Settled.{listed_told}
use Rattle.streams.specs.Texts.{Shown}

module _ (s o o' : List ℕ) (k : ℕ) (L : Listed s o o' (Some k)) where
  told : Told s o o' k
  told = listed_told s o o' k L

  text : List ℕ
  text = listing (drawing s) told.number told.outcome.entries

  whole : take k o' ≡ text
  unfolding text
  whole = ap (take k) told.text ∙ take_at text (drop k o) k (sym told.size)

  pub shown : Shown s (take k o')
  unfolding text
  shown = rw whole record {
    number = told.number;
    written = told.written;
    left = told.left;
    outcome = told.outcome;
    text = sym (ap (λ (l : List ℕ). text ++ l) (drop-nil (length text)) ∙ append-nil text);
    size = refl;
  }
