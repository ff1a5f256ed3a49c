-- What a run of the test with the judge after it leaves. Assumes nothing.
use Rattle.std.specs.Prelude.{◌≡◌, ◌⊎◌, List, ℕ, ◌≤◌, length, take}
use Rattle.rules.specs.Tests.{Given, faults, report_room}
use Rattle.rules.specs.Report.{Outcome}
use Rattle.judge.specs.Verdicts.{Answered}
use Rattle.judge.specs.declared.Verdict.{Verdict}
use Rattle.judge.specs.declared.Verdict.TheVariants.{LabelsHold, CutHolds}

-- the chart s, the report r that was lent and r' that it became, and the judge's answer a to the stretch written
pub record Confirmed (s r r' : List ℕ) (a : Verdict) : Type 0 where
  pub number : ℕ
  pub written : ℕ
  pub outcome : Outcome s r number written r'
  -- "The report it reads is the stretch written, not the whole lent room."
  pub answered : Answered s (take written r') a
  -- "our own test's report is always confirmed"
  pub confirmed : Given faults s 0 0 → report_room ≤ length r → (a ≡ LabelsHold) ⊎ (a ≡ CutHolds)
