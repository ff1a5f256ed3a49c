-- A run of the test, and then of the judge on what it wrote. Assumes nothing.
--   stretch_within      the stretch written lies within the report
--   run_confirmed       the judge's answer to it is what `Confirmed` says
use mathlib.Core.Path.{◌≡◌, ap, ◌∙◌}
use mathlib.Core.Logic.{◌⊎◌, inl, inr}
use mathlib.Core.List.{List}
use Prim.Native.Nat.{ℕ, ◌≤◌}
use native.Mathlib.Omega.{arith}
use lib.ListN.{length, take, drop, length-append}
use Rattle.rules.specs.Report.{Outcome, report}
use Rattle.rules.specs.Judge.{J}
use Rattle.judge.specs.Verdicts.{verdict_of, case_of, Answered}
use Rattle.judge.specs.declared.Verdict.{Verdict}
use Rattle.judge.specs.declared.Verdict.TheVariants.{LabelsHold, CutHolds}
use Rattle.theorems.proofs.Demands.{own_confirmed}
use Rattle.confirm.specs.Confirmed.{Confirmed}

-- an answer that says J0 or J1 is the case that says it
said : (s r : List ℕ) (a : Verdict) → Answered s r a → (verdict_of a ≡ J 0) ⊎ (verdict_of a ≡ J 1) → (a ≡ LabelsHold) ⊎ (a ≡ CutHolds)
said s r a h (inl e) = inl (h.stands ∙ ap case_of e)
said s r a h (inr e) = inr (h.stands ∙ ap case_of e)

module _ (s r : List ℕ) (n w : ℕ) (r' : List ℕ) (O : Outcome s r n w r') where
  pub stretch_within : w ≤ length r'
  stretch_within = omega (arith, O.written, ap length O.left, length-append (report n O.entries) (drop w r))

  pub run_confirmed : (a : Verdict) → Answered s (take w r') a → Confirmed s r r' a
  run_confirmed a h = record {
    number = n;
    written = w;
    outcome = O;
    answered = h;
    confirmed = λ g l. said s (take w r') a h (own_confirmed s r n w r' O l g (verdict_of a) h.judged);
  }
