-- A report always fits its room: it has at most 6,152 bytes. Assumes nothing.
--   outcome_small   no number is above 14
--   outcome_fits    so no outcome writes more than the report room
use mathlib.Core.Path.{◌≡◌, refl, sym, ap, subst, ◌∙◌}
use mathlib.Core.Logic.{◌≢◌}
use mathlib.Core.Bool.{Bool, true, false, cond}
use mathlib.Core.List.{List, ◌++◌}
use Prim.Native.Nat.{ℕ, ◌+◌, ◌*◌, ◌≤◌}
use native.Mathlib.Decide.{ℕ_discrete}
use native.Mathlib.Omega.{arith}
use borrow.Author.Tests.{ne_eqb}
use lib.Dec.{T}
use lib.ListN.{length, take, length-take}
use Rattle.drawing.specs.Drawing.{darts, mixed_events}
use Rattle.drawing.specs.Conditions.{Circle, Labelling, Cut}
use Rattle.drawing.proofs.Few.{circle_few_lem, cut_few}
use Rattle.rules.specs.Words.{bytes}
use Rattle.rules.specs.Chart.{drawing}
use Rattle.rules.specs.Tests.{tests, report_room}
use Rattle.rules.specs.Report.{writes, report, Entries, Outcome}
use Rattle.rules.proofs.Bytes.{bytes-length}
use Rattle.chart.specs.Shape.{Shape}
use Rattle.report.specs.Headers.{header}
use Rattle.report.proofs.Laws.{report_is}
use Rattle.lines.proofs.Tested.{given_shape}
use Rattle.rules.proofs.Chain.{given_highest}

-- the bytes of a report with the entries l
size_listed : (n : ℕ) (l : List ℕ) → n ≢ 0 → writes n ≡ true → length (report n l) ≡ 8 + 2 * length l
size_listed n l z w =
    let e : report n l ≡ header n (length l) ++ bytes l = report_is n l w ∙ ap (λ (b : Bool). header n (length l) ++ cond b l (bytes l)) (ne_eqb n 0 z) in
    omega (arith, ap length e, bytes-length l)

size_labels : (l : List ℕ) → length (report 0 l) ≡ 8 + length l
size_labels l = omega (arith, ap length (report_is 0 l refl))

module _ (s : List ℕ) (n : ℕ) (l : List ℕ) (S : Shape s (darts (drawing s))) where
  fits-labels : Labelling (drawing s) l → length (report 0 l) ≤ report_room
  fits-labels L = omega (arith, size_labels l, L.size, S.few)

  fits-mixed : l ≡ take 1 (mixed_events (drawing s)) → length (report 12 l) ≤ report_room
  fits-mixed e = omega (arith, size_listed 12 l (λ z. omega arith) refl, ap length e, length-take 1 (mixed_events (drawing s)))

  fits_circle : Circle (drawing s) l → length (report 13 l) ≤ report_room
  fits_circle C = omega (arith, size_listed 13 l (λ z. omega arith) refl, circle_few_lem (drawing s) l C, S.few)

  fits_cut : Cut (drawing s) l → length (report 14 l) ≤ report_room
  fits_cut C = omega (arith, size_listed 14 l (λ z. omega arith) refl, cut_few (drawing s) l C, S.events)

none_written : (n : ℕ) (l : List ℕ) → writes n ≡ false → length (report n l) ≤ report_room
unfolding report
none_written n l w = rw w (omega arith)

pub outcome_small : (s r : List ℕ) (n w : ℕ) (r' : List ℕ) → Outcome s r n w r' → n ≤ 14
outcome_small s r n w r' O = given_highest tests s (length r) n O.given

pub outcome_fits : (s r : List ℕ) (n w : ℕ) (r' : List ℕ) → Outcome s r n w r' → w ≤ report_room
outcome_fits s r n w r' O = omega (arith, O.written, go (ℕ_discrete n 0) (ℕ_discrete n 12) (ℕ_discrete n 13) (ℕ_discrete n 14))
  where
    l : List ℕ
    l = O.entries

    shaped : (k : ℕ) → n ≡ k → T (writes k) → Shape s (darts (drawing s))
    shaped k e t = (given_shape s (length r) n O.given (subst (λ (m : ℕ). T (writes m)) (sym e) t)).0

    held : (k : ℕ) → n ≡ k → Entries (drawing s) k l
    held k e = subst (λ (m : ℕ). Entries (drawing s) m l) e O.allowed

    at_number : {k : ℕ} → n ≡ k → length (report k l) ≤ report_room → length (report n l) ≤ report_room
    at_number e h = subst (λ (m : ℕ). length (report m l) ≤ report_room) (sym e) h

    go : Dec (n ≡ 0) → Dec (n ≡ 12) → Dec (n ≡ 13) → Dec (n ≡ 14) → length (report n l) ≤ report_room
    go (yes e) b c d = at_number e (fits-labels s n l (shaped 0 e tt) (held 0 e))
    go (no a) (yes e) c d = at_number e (fits-mixed s n l (shaped 12 e tt) (held 12 e))
    go (no a) (no b) (yes e) d = at_number e (fits_circle s n l (shaped 13 e tt) (held 13 e).0)
    go (no a) (no b) (no c) (yes e) = at_number e (fits_cut s n l (shaped 14 e tt) (held 14 e))
    go (no a) (no b) (no c) (no d) = none_written n l (simp (ne_eqb n 0 a, ne_eqb n 12 b, ne_eqb n 13 c, ne_eqb n 14 d))
