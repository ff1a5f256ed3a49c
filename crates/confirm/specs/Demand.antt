-- Demand 3 in the cases of the judge's answer. Assumes nothing.
--   AnswerDemand s      what the judge answers to the reports of the chart s, past test 13
use Rattle.std.specs.Prelude.{◌≡◌, ◌↔◌, ◌⊎◌, List, ℕ, ◌<◌, ◌≤◌, length}
use Rattle.finite.specs.Lists.{All}
use Rattle.rules.specs.Chart.{drawing}
use Rattle.rules.specs.Tests.{report_room}
use Rattle.judge.specs.Verdicts.{Answered}
use Rattle.judge.specs.declared.Verdict.{Verdict}
use Rattle.judge.specs.declared.Verdict.TheVariants.{LabelsHold, CutHolds}
use Rattle.theorems.specs.Demands.{YesHolds, NoHolds}
use Rattle.confirm.specs.Confirmed.{Confirmed}

-- "For every chart that passes the tests up to circles the judge confirms a yes exactly if the labels meet the conditions, and a no exactly if the list
-- is strictly ascending, names only sources and sinks, and these outnumber the room of all faces they touch. For each such chart some report is confirmed;
-- none has both a yes and a no; our own test's report is always confirmed."
pub record AnswerDemand (s : List ℕ) : Type 0 where
  pub yes_exactly : (r : List ℕ) (a : Verdict) → Answered s r a → (a ≡ LabelsHold) ↔ YesHolds (drawing s) r
  pub no_exactly : (r : List ℕ) (a : Verdict) → Answered s r a → (a ≡ CutHolds) ↔ NoHolds (drawing s) r
  pub some : (r : List ℕ) × All (λ b. b < 256) r × (Answered s r LabelsHold ⊎ Answered s r CutHolds)
  pub never_both : (r q : List ℕ) → Answered s r LabelsHold → Answered s q CutHolds → ⊥
  pub own : (r r' : List ℕ) (a : Verdict) → Confirmed s r r' a → report_room ≤ length r → (a ≡ LabelsHold) ⊎ (a ≡ CutHolds)
