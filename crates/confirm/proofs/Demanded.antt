-- Demand 3 holds in the cases of the judge's answer. Assumes nothing.
--   answer_demand      of every chart past test 13
use mathlib.Core.Path.{◌≡◌, refl, ap, ◌∙◌}
use mathlib.Core.Logic.{◌↔◌, ◌⊎◌, inl, inr}
use mathlib.Core.List.{List}
use Prim.Native.Nat.{ℕ}
use Rattle.rules.specs.Tests.{Given, faults}
use Rattle.rules.specs.Judge.{J, Judged}
use Rattle.judge.specs.Verdicts.{verdict_of, case_of, Answered}
use Rattle.judge.specs.declared.Verdict.{Verdict}
use Rattle.judge.specs.declared.Verdict.TheVariants.{LabelsHold, CutHolds}
use Rattle.judge.proofs.Answers.{said_case}
use Rattle.theorems.proofs.Demands.{demand_3}
use Rattle.confirm.specs.Demand.{AnswerDemand}

-- an answer is the case of a verdict exactly if it says this verdict
case_exactly : (s r : List ℕ) (a : Verdict) (j : ℕ) → Answered s r a → (a ≡ case_of (J j)) ↔ (verdict_of a ≡ J j)
case_exactly s r a j h = (λ p. ap verdict_of p ∙ said_case (J j), λ p. h.stands ∙ ap case_of p)

both_ways : {A B C : Type 0} → A ↔ B → B ↔ C → A ↔ C
both_ways p q = (λ a. q.0 (p.0 a), λ c. p.1 (q.1 c))

in-cases : (s r : List ℕ) → Judged s r (J 0) ⊎ Judged s r (J 1) → Answered s r LabelsHold ⊎ Answered s r CutHolds
in-cases s r (inl h) = inl (record { judged = h; stands = refl })
in-cases s r (inr h) = inr (record { judged = h; stands = refl })

pub answer_demand : (s : List ℕ) → Given faults s 0 0 → AnswerDemand s
answer_demand s g =
    let D = demand_3 s g in
    record {
      yes_exactly = λ r a h. both_ways (case_exactly s r a 0 h) (D.yes_exactly r (verdict_of a) h.judged);
      no_exactly = λ r a h. both_ways (case_exactly s r a 1 h) (D.no_exactly r (verdict_of a) h.judged);
      some = (D.some.0, D.some.1, in-cases s D.some.0 D.some.2);
      never_both = λ r q h k. D.never_both r q h.judged k.judged;
      own = λ r r' a C l. C.confirmed g l;
    }
