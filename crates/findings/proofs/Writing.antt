-- What is written for test 14. Assumes nothing.
use mathlib.Core.Path.{◌≡◌, refl, ap, ◌∙◌}
use mathlib.Core.Logic.{inl, inr}
use mathlib.Core.List.{List, ◌++◌}
use Prim.Native.Nat.{ℕ, ◌+◌, ◌-◌, ◌≤◌}
use lib.ListN.{length, take, drop, take-append-drop}
use Rattle.drawing.specs.Conditions.{Rings, Labelling, Cut}
use Rattle.drawing.proofs.Apart.{labelling_no_cut}
use Rattle.rules.specs.Chart.{drawing}
use Rattle.rules.proofs.Bytes.{darts_even}
use Rattle.rules.specs.Report.{report, Run}
use Rattle.report.specs.Headers.{header}
use Rattle.report.proofs.Laws.{labels-report, labels_length}
use Rattle.findings.specs.Stretch.{last_tests}

-- a report of which a part was lent and left as it was
pub left_whole : (b ys : List ℕ) (k : ℕ) → ys ≡ take k (drop 8 b) → take 8 b ++ (ys ++ drop k (drop 8 b)) ≡ b
left_whole b ys k e = rw (e, take-append-drop k (drop 8 b)) (take-append-drop 8 b)

pub cut_run : (s b : List ℕ) (l : List ℕ) (w : ℕ) (b' whole : List ℕ) → Rings (drawing s) → whole ≡ b → Cut (drawing s) l
    → (b' ≡ report 14 l ++ drop w whole) × (w ≡ length (report 14 l)) → Run last_tests s b 14 w b'
cut_run s b l w b' whole R e C h = record {
  given = inl ((λ D. labelling_no_cut (drawing s) (darts_even s) R D.0 l D.1 C), refl);
  entries = l;
  allowed = C;
  written = h.1;
  left = h.0 ∙ ap (λ (x : List ℕ). report 14 l ++ drop w x) e;
}

pub labels_run : (s b l : List ℕ) (n : ℕ) (b' : List ℕ) → 8 + n ≤ length b → length l ≡ n → Labelling (drawing s) l
    → b' ≡ header 0 n ++ drop 8 (take 8 b ++ (l ++ drop (8 + n - 8) (drop 8 b))) → Run last_tests s b 0 (8 + n) b'
labels_run s b l n b' room size L h = record {
  given = inr ((l, L), refl);
  entries = l;
  allowed = L;
  written = labels_length l n size;
  left = h ∙ labels-report b l n room size;
}
