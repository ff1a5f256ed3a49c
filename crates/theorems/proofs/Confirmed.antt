-- What the judge confirms: a yes or a no exactly if it holds, every report written for a labelling or a cut, and never both. Assumes nothing.
--   yes_exactly, no_exactly      what the judge confirms, of a chart past test 13
--   yes_written, no_written      the report written for a labelling, or for a cut, holds
--   some_confirmed               some report of bytes is confirmed
--   never_both                   no chart has both
use mathlib.Core.Path.{◌≡◌, refl, sym, subst, ◌∙◌}
use mathlib.Core.Logic.{◌↔◌, ◌⊎◌, inl, inr}
use mathlib.Core.Bool.{Bool, true, false, cond, ◌&&◌, ◌||◌}
use mathlib.Core.List.{List, [], ◌∷◌, ◌++◌}
use Prim.Native.Nat.{ℕ, ◌<◌, ◌≤◌}
use native.Mathlib.Decide.{ℕ_discrete}
use native.Mathlib.Omega.{arith}
use borrow.Author.Tests.{eqb-true, eq-eqb}
use lib.Dec.{T, eqb}
use lib.ListN.{length}
use Rattle.finite.specs.Lists.{All}
use Rattle.finite.proofs.Lists.{all_of}
use Rattle.drawing.specs.Drawing.{Drawing, darts, plain, pole}
use Rattle.drawing.specs.Conditions.{label, Labelling, Cut}
use Rattle.rules.specs.Words.{bytes}
use Rattle.rules.specs.Chart.{drawing}
use Rattle.rules.specs.Tests.{Given, faults}
use Rattle.rules.specs.Report.{report, is_well_formed, result_in, count_in, entries}
use Rattle.rules.specs.Judge.{Verdict, J, fits, Either, Deserves, Judged}
use Rattle.rules.proofs.Chain.{given_parts}
use Rattle.rules.proofs.Unique.{judged_unique}
use Rattle.report.specs.Headers.{header}
use Rattle.report.proofs.Good.{form_parts}
use Rattle.report.proofs.Laws.{report_is}
use Rattle.report.proofs.Round.{labels-form, labels-entries, cut_form, cut_entries}
use Rattle.chart.specs.Form.{form_tests}
use Rattle.chart.proofs.Form.{given_formed}
use Rattle.survey.specs.Past.{survey_tests}
use Rattle.drawing.proofs.Few.{cut_few}
use Rattle.theorems.specs.Demands.{YesHolds, NoHolds}
use Rattle.theorems.proofs.Theorems.{chart_uncircled, chart_yes_or_no, yes_excludes_no}

-- ---- what a report deserves

module _ (g : Drawing) (r : List ℕ) where
  -- J0 and the yes holds, J1 and the no holds, or J2 and more
  pub deserved : (j : ℕ) → Deserves g r j → ((j ≡ 0) × YesHolds g r) ⊎ (((j ≡ 1) × NoHolds g r) ⊎ (2 ≤ j))
  unfolding fits
  deserved j = go (is_well_formed r) (eqb (result_in r) 0) (eqb (count_in r) (darts g)) (eqb (result_in r) 14) refl refl refl refl
    where
      go : (w z c f : Bool) → is_well_formed r ≡ w → eqb (result_in r) 0 ≡ z → eqb (count_in r) (darts g) ≡ c → eqb (result_in r) 14 ≡ f
          → cond (w && (z && c || f)) (cond z (Either (Labelling g (entries r)) 0 3 j) (Either (Cut g (entries r)) 1 4 j)) (j ≡ 2)
          → ((j ≡ 0) × YesHolds g r) ⊎ (((j ≡ 1) × NoHolds g r) ⊎ (2 ≤ j))
      go false z c f a b d e h = inr (inr (omega arith))
      go true true true f a b d e (inl h) =
          inl (h.1, record { formed = a; result = eqb-true (result_in r) 0 b; count = eqb-true (count_in r) (darts g) d; labels = h.0 })
      go true true true f a b d e (inr h) = inr (inr (omega (arith, h.1)))
      go true true false true a b d e h = absurd (omega (arith, eqb-true (result_in r) 0 b, eqb-true (result_in r) 14 e))
      go true true false false a b d e h = inr (inr (omega arith))
      go true false c true a b d e (inl h) = inr (inl (h.1, record { formed = a; result = eqb-true (result_in r) 14 e; ascending = h.0.ascending; poles = h.0.poles; outnumber = h.0.larger }))
      go true false c true a b d e (inr h) = inr (inr (omega (arith, h.1)))
      go true false c false a b d e h = inr (inr (omega arith))

  pub yes_deserves : YesHolds g r → Deserves g r 0
  unfolding fits
  yes_deserves Y = rw (Y.formed, Y.result, eq-eqb (count_in r) (darts g) Y.count) (inl (Y.labels, refl))

  pub no_cut : NoHolds g r → Cut g (entries r)
  no_cut N = record { ascending = N.ascending; poles = N.poles; larger = N.outnumber }

  pub no_deserves : NoHolds g r → Deserves g r 1
  unfolding fits
  no_deserves N = rw (N.formed, N.result) (inl (no_cut N, refl))

  held_yes : Deserves g r 0 → YesHolds g r
  held_yes d = elim (deserved 0 d) [ inl h ↦ h.1 | inr h ↦ absurd (elim h [ inl k ↦ omega (arith, k.0) | inr l ↦ omega arith ]) ]

  held_no : Deserves g r 1 → NoHolds g r
  held_no d = elim (deserved 1 d) [ inl h ↦ absurd (omega (arith, h.0)) | inr h ↦ elim h [ inl k ↦ k.1 | inr l ↦ absurd (omega arith) ] ]

-- ---- what the judge confirms

module _ (s r : List ℕ) where
  -- a report is judged only past test 13
  judged_report : (j : ℕ) → Judged s r (J j) → Given faults s 0 0 × Deserves (drawing s) r j
  judged_report j (inl h) = absurd (let e = h.3 in let z : ◌≡◌ {A = ℕ} 0 1 = cc in omega arith)
  judged_report j (inr h) = let q = h.3 in let e : h.0 ≡ j = cc in (h.1, subst (Deserves (drawing s) r) e h.2)

  pub judged_yes : Given faults s 0 0 → YesHolds (drawing s) r → Judged s r (J 0)
  judged_yes g Y = inr (0, g, yes_deserves (drawing s) r Y, refl)

  pub judged_no : Given faults s 0 0 → NoHolds (drawing s) r → Judged s r (J 1)
  judged_no g N = inr (1, g, no_deserves (drawing s) r N, refl)

  pub yes_exactly : Given faults s 0 0 → (v : Verdict) → Judged s r v → (v ≡ J 0) ↔ YesHolds (drawing s) r
  yes_exactly g v j = (
    λ e. held_yes (drawing s) r (judged_report 0 (subst (Judged s r) e j)).1,
    λ Y. judged_unique s r v (J 0) j (judged_yes g Y),
  )

  pub no_exactly : Given faults s 0 0 → (v : Verdict) → Judged s r v → (v ≡ J 1) ↔ NoHolds (drawing s) r
  no_exactly g v j = (
    λ e. held_no (drawing s) r (judged_report 1 (subst (Judged s r) e j)).1,
    λ N. judged_unique s r v (J 1) j (judged_no g N),
  )

pub never_both : (s r q : List ℕ) → Judged s r (J 0) → Judged s q (J 1) → ⊥
never_both s r q y n =
    let a = judged_report s r 0 y in
    let b = judged_report s q 1 n in
    yes_excludes_no (drawing s) (chart_uncircled s a.0).unmixed.uncrossed (entries r) (entries q)
    (held_yes (drawing s) r a.1).labels (no_cut (drawing s) q (held_no (drawing s) q b.1))

-- ---- the reports written for a labelling and for a cut

pub yes_written : (g : Drawing) (l : List ℕ) → Labelling g l → YesHolds g (report 0 l)
yes_written g l L =
    let p = form_parts (report 0 l) 0 (length l) (sym (labels-form l)) in
    record { formed = p.0; result = sym p.1.0; count = sym p.1.1 ∙ L.size; labels = rw (labels-entries l) L }

pub no_written : (g : Drawing) (l : List ℕ) → Cut g l → NoHolds g (report 14 l)
no_written g l C =
    let p = form_parts (report 14 l) 14 (length l) (sym (cut_form l)) in
    record {
      formed = p.0;
      result = sym p.1.0;
      ascending = rw (cut_entries l) C.ascending;
      poles = rw (cut_entries l) C.poles;
      outnumber = rw (cut_entries l) C.larger;
    }

-- ---- they are bytes

abbrev Byte : ℕ → Type 0
Byte b = b < 256

bytes-bytes : (P : ℕ → Type 0) → ((v : ℕ) → P v → v < 65536) → (l : List ℕ) → All P l → All Byte (bytes l)
unfolding bytes
bytes-bytes P small [] a = tt
bytes-bytes P small (x ∷ l) a = (omega arith, (omega (arith, small x a.0), bytes-bytes P small l a.1))

label_byte : (g : Drawing) (l : List ℕ) → Labelling g l → (c : ℕ) → c < length l → Byte (label l c)
label_byte g l L c h =
    let k : c < darts g = omega (arith, L.size) in
    elim (ℕ_discrete (plain g c) 1) [
      | yes e ↦ omega (arith, L.plains c k e)
      | no d ↦ elim (L.switches c k (omega arith)) [ inl e ↦ omega (arith, e) | inr e ↦ omega (arith, e) ]
    ]

-- a header and the bytes behind it
headed : (n : ℕ) (l t : List ℕ) → Byte n → length l < 65536 → All Byte t → All Byte (header n (length l) ++ t)
headed n l t h k a =
    (omega arith, (omega arith, (omega arith, (omega arith, (omega arith, (h, (omega arith, (omega arith, a))))))))

module _ (g : Drawing) (l : List ℕ) where
  pub labels-bytes : darts g < 65536 → Labelling g l → All Byte (report 0 l)
  labels-bytes few L = rw (report_is 0 l refl) (headed 0 l l (omega arith) (omega (arith, L.size)) (all_of Byte l (label_byte g l L)))

  pub cut_bytes : g.events < 65536 → Cut g l → All Byte (report 14 l)
  cut_bytes few C =
      rw (report_is 14 l refl)
      (headed 14 l (bytes l) (omega arith) (omega (arith, cut_few g l C))
      (bytes-bytes (λ v. (v < g.events) × T (pole g v)) (λ v p. omega arith) l C.poles))

pub some_confirmed : (s : List ℕ) → Given faults s 0 0 → (r : List ℕ) × All Byte r × (Judged s r (J 0) ⊎ Judged s r (J 1))
some_confirmed s g =
    let S = (given_formed s (given_parts form_tests survey_tests s 0 g).0).shape in
    elim (chart_yes_or_no s g) [
      | inl y ↦ (
        report 0 y.0,
        labels-bytes (drawing s) y.0 (omega (arith, S.darts, S.few)) y.1,
        inl (judged_yes s (report 0 y.0) g (yes_written (drawing s) y.0 y.1)),
      )
      | inr c ↦ (
        report 14 c.0,
        cut_bytes (drawing s) c.0 (omega (arith, S.events)) c.1,
        inr (judged_no s (report 14 c.0) g (no_written (drawing s) c.0 c.1)),
      )
    ]
