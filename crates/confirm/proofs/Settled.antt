-- What a run of the test with the judge after it determines. Assumes nothing.
--   confirmed_unique      the judge's answer is one, whichever labelling, circle or cut the test wrote; so is the number, and but for these the report
use mathlib.Core.Path.{◌≡◌, refl, sym, ap, ap₂, subst, ◌∙◌}
use mathlib.Core.Logic.{◌⊎◌, inl, inr}
use mathlib.Core.Bool.{not}
use mathlib.Core.List.{List}
use Prim.Native.Nat.{ℕ, ◌≤◌, ◌<◌}
use native.Mathlib.Omega.{arith}
use lib.Dec.{T}
use lib.ListN.{length, take}
use Rattle.finite.proofs.Decide.{le?}
use Rattle.rules.specs.Tests.{Given, faults, tests, report_room}
use Rattle.rules.specs.Judge.{chart, Judged}
use Rattle.rules.proofs.Unique.{free, given_unique, outcome_unique}
use Rattle.judge.specs.Verdicts.{verdict_of, case_of, Answered}
use Rattle.judge.specs.declared.Verdict.{Verdict}
use Rattle.judge.specs.declared.Verdict.TheVariants.{LabelsHold, CutHolds}
use Rattle.judge.proofs.Answers.{answered_unique}
use Rattle.theorems.proofs.Confirmed.{never_both}
use Rattle.confirm.specs.Confirmed.{Confirmed}

module _ (s r r' r'' : List ℕ) (a b : Verdict) (p : Confirmed s r r' a) (q : Confirmed s r r'' b) where
  same : (p.number ≡ q.number) × (T (not (free p.number)) → (p.written ≡ q.written) × (r' ≡ r''))
  same = outcome_unique s r p.number p.written q.number q.written r' r'' p.outcome q.outcome

  -- without report room the number is 1, and nothing is written
  none_lent : length r < report_room → p.number ≡ 1
  none_lent l = given_unique tests s (length r) p.number 1 p.outcome.given (inl ((λ h. omega arith), refl))

  short_one : length r < report_room → a ≡ b
  short_one l =
      let t : T (not (free p.number)) = rw (none_lent l) tt in
      let e = same.1 t in
      answered_unique s (take p.written r') a b p.answered
      (subst (λ (x : List ℕ). Answered s x b) (sym (ap₂ (λ (w : ℕ) (x : List ℕ). take w x) e.0 e.1)) q.answered)

  -- a chart past test 13 with report room: a yes, or a no, and never one of each
  full_one : Given faults s 0 0 → report_room ≤ length r → a ≡ b
  full_one g l = go (p.confirmed g l) (q.confirmed g l)
    where
      yes_no : {x y : Verdict} {k m : List ℕ} → Answered s k x → Answered s m y → x ≡ LabelsHold → y ≡ CutHolds → ⊥
      yes_no {x} {y} {k} {m} h i e f =
          never_both s k m (subst (λ (z : Verdict). Judged s k (verdict_of z)) e h.judged) (subst (λ (z : Verdict). Judged s m (verdict_of z)) f i.judged)

      go : (a ≡ LabelsHold) ⊎ (a ≡ CutHolds) → (b ≡ LabelsHold) ⊎ (b ≡ CutHolds) → a ≡ b
      go (inl e) (inl f) = e ∙ sym f
      go (inl e) (inr f) = absurd (yes_no p.answered q.answered e f)
      go (inr e) (inl f) = absurd (yes_no q.answered p.answered f e)
      go (inr e) (inr f) = e ∙ sym f

  answer_one : Judged s (take p.written r') (verdict_of a) → Judged s (take q.written r'') (verdict_of b) → a ≡ b
  answer_one (inl h) (inl i) =
      let n : h.0 ≡ i.0 = given_unique faults s 0 h.0 i.0 h.2 i.2 in
      p.answered.stands ∙ ap case_of (h.3 ∙ ap chart n ∙ sym i.3) ∙ sym q.answered.stands
  answer_one (inl h) (inr i) = absurd (h.1 (given_unique faults s 0 h.0 0 h.2 i.1))
  answer_one (inr h) (inl i) = absurd (i.1 (given_unique faults s 0 i.0 0 i.2 h.1))
  answer_one (inr h) (inr i) = elim (le? report_room (length r)) [ yes l ↦ full_one h.1 l | no l ↦ short_one (omega arith) ]

  pub confirmed_unique : (a ≡ b) × (p.number ≡ q.number) × (T (not (free p.number)) → (p.written ≡ q.written) × (r' ≡ r''))
  confirmed_unique = (answer_one p.answered.judged q.answered.judged, same.0, same.1)
