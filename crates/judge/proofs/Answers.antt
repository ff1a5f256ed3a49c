-- The judge's answer is one: the verdict fixes its case and its value. Assumes nothing.
--   said_case                                the answer for a verdict says this verdict
--   refused_file, refused_drawn, deserved     the three ways to an answer
--   answered_unique                          two answers to one chart and one report are the same
use mathlib.Core.Path.{◌≡◌, refl, sym, ap, ◌∙◌}
use mathlib.Core.Logic.{◌≢◌, inl, inr}
use mathlib.Core.Bool.{Bool, true, false, cond}
use mathlib.Core.List.{List}
use Prim.Native.Nat.{ℕ}
use native.Mathlib.Decide.{ℕ_discrete}
use native.Mathlib.Omega.{arith}
use borrow.Author.Tests.{le-leb, lt-leb, ne_eqb}
use lib.Dec.{eqb, leb}
use Rattle.rules.specs.Chart.{drawing}
use Rattle.rules.specs.Tests.{Given, faults}
use Rattle.rules.specs.Judge as rules
use Rattle.rules.specs.Judge.{Judged}
use Rattle.rules.proofs.Chain.{given_left, given_append, given_highest, given_lowest}
use Rattle.rules.proofs.Unique.{judged_unique}
use Rattle.chart.specs.Form.{form_tests}
use Rattle.chart.specs.Faults.{fault_number}
use Rattle.chart.specs.declared.Fault as chart
use Rattle.chart.specs.declared.Fault.TheVariants.{Mark, Version, Counts, Length, UnknownEvent, OwnArrow, OuterDart}
use Rattle.survey.specs.Past.{survey_tests}
use Rattle.survey.specs.Faults.{fault_number as drawn_number}
use Rattle.survey.specs.declared.Fault as survey
use Rattle.survey.specs.declared.Fault.TheVariants.{Order, Parted, Crossing, Mixed, Circle}
use Rattle.judge.specs.Verdicts.{verdict_of, case_of, Answered, Reported}
use Rattle.judge.specs.declared.Refusal.TheVariants.{File, Drawn}
use Rattle.judge.specs.declared.Fault.TheVariants.{Form, Evidence}
use Rattle.judge.specs.declared.Verdict.{Verdict}
use Rattle.judge.specs.declared.Verdict.TheVariants.{Chart, Report}

pub said_case : (v : rules.Verdict) → verdict_of (case_of v) ≡ v
said_case (rules.chart n) = go (leb n 8)
  where
    go : (b : Bool) → verdict_of (Chart (cond b (File n) (Drawn n))) ≡ rules.chart n
    go true = refl
    go false = refl
said_case (rules.J j) =
    elim (ℕ_discrete j 0) [
      | yes e ↦ rw e refl
      | no z ↦ elim (ℕ_discrete j 1) [
        | yes e ↦ rw e refl
        | no o ↦ rw (ne_eqb j 0 z, ne_eqb j 1 o) (go (eqb j 2))
      ]
    ]
  where
    go : (b : Bool) → verdict_of (Report (cond b (Form j) (Evidence j))) ≡ rules.J j
    go true = refl
    go false = refl

-- ---- the ways to an answer

-- a fault has a number
pub file_some : (f : chart.Fault) → fault_number f ≢ 0
file_some Mark = λ e. omega arith
file_some Version = λ e. omega arith
file_some Counts = λ e. omega arith
file_some Length = λ e. omega arith
file_some UnknownEvent = λ e. omega arith
file_some OwnArrow = λ e. omega arith
file_some OuterDart = λ e. omega arith

pub drawn_some : (f : survey.Fault) → drawn_number f ≢ 0
drawn_some Order = λ e. omega arith
drawn_some Parted = λ e. omega arith
drawn_some Crossing = λ e. omega arith
drawn_some Mixed = λ e. omega arith
drawn_some (Circle k) = λ e. omega arith

module _ (s r : List ℕ) (n : ℕ) (some : n ≢ 0) where
  refused : Given faults s 0 n → Judged s r (rules.chart n)
  refused g = inl (n, some, g, refl)

  pub refused_file : Given form_tests s 0 n → Answered s r (Chart (File n))
  refused_file g = record {
    judged = refused (given_left form_tests survey_tests s 0 n some g);
    stands = sym (ap (λ (b : Bool). Chart (cond b (File n) (Drawn n))) (le-leb n 8 (given_highest form_tests s 0 n g)));
  }

  pub refused_drawn : Given form_tests s 0 0 → Given survey_tests s 0 n → Answered s r (Chart (Drawn n))
  refused_drawn f g = record {
    judged = refused (given_append form_tests survey_tests s 0 n f g);
    stands = sym (ap (λ (b : Bool). Chart (cond b (File n) (Drawn n))) (lt-leb n 8 (given_lowest survey_tests s 0 n some g)));
  }

pub deserved : (s r : List ℕ) (a : Verdict) → Given faults s 0 0 → Reported (drawing s) r a → Answered s r a
deserved s r a g w =
    let says : verdict_of a ≡ rules.J w.0 = ap verdict_of w.2 ∙ said_case (rules.J w.0) in
    record { judged = inr (w.0, g, w.1, says); stands = w.2 ∙ ap case_of (sym says) }

pub answered_unique : (s r : List ℕ) (a b : Verdict) → Answered s r a → Answered s r b → a ≡ b
answered_unique s r a b p q = p.stands ∙ ap case_of (judged_unique s r (verdict_of a) (verdict_of b) p.judged q.judged) ∙ sym q.stands
