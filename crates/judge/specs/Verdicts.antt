-- The document's verdict for each case of the judge's answer, and the case for each verdict. Assumes nothing.
--   verdict_of a         the verdict that the answer a says: the chart's refusal by its number, or J0 to J4
--   said v               the verdict v as it is printed
--   case_of v            the answer that says the verdict v
--   Answered s r a       the judge's answer to the chart s and the report r is a, and no other
--   Reported g r a       the answer a says what the report r of a chart past test 13 deserves
use Rattle.std.specs.Prelude.{◌≡◌, cond, List, ◌∷◌, ℕ, eqb, leb}
use Rattle.std.specs.Fmt.{decimal}
use Rattle.drawing.specs.Drawing.{Drawing}
use Rattle.rules.specs.Judge as rules
use Rattle.rules.specs.Judge.{Deserves, Judged}
use Rattle.judge.specs.declared.Refusal.{Refusal}
use Rattle.judge.specs.declared.Refusal.TheVariants.{File, Drawn}
use Rattle.judge.specs.declared.Fault.{Fault}
use Rattle.judge.specs.declared.Fault.TheVariants.{Form, Evidence}
use Rattle.judge.specs.declared.Verdict.{Verdict}
use Rattle.judge.specs.declared.Verdict.TheVariants.{LabelsHold, CutHolds, Chart, Report}

-- "the verdict carries the chart's refusal or the report's own fault, never a bare no"
abbrev pub refusal_of : Refusal → ℕ
refusal_of (File n) = n
refusal_of (Drawn n) = n

abbrev pub fault_of : Fault → ℕ
fault_of (Form j) = j
fault_of (Evidence j) = j

abbrev pub verdict_of : Verdict → rules.Verdict
verdict_of LabelsHold = rules.J 0
verdict_of CutHolds = rules.J 1
verdict_of (Chart r) = rules.chart (refusal_of r)
verdict_of (Report f) = rules.J (fault_of f)

-- "J0" to "J4", and a chart's refusal by its number
abbrev pub said : rules.Verdict → List ℕ
said (rules.chart n) = decimal n
said (rules.J j) = 74 ∷ decimal j

-- many answers could say one verdict, as Form 0 and LabelsHold say J0; the judge's is this one: 2 to 8 are faults of the file, the higher ones of the
-- drawing in it; J2 is a fault of the report's form, J3 and J4 are faults of its evidence
abbrev pub case_of : rules.Verdict → Verdict
case_of (rules.chart n) = Chart (cond (leb n 8) (File n) (Drawn n))
case_of (rules.J j) = cond (eqb j 0) LabelsHold (cond (eqb j 1) CutHolds (Report (cond (eqb j 2) (Form j) (Evidence j))))

pub record Answered (s r : List ℕ) (a : Verdict) : Type 0 where
  pub judged : Judged s r (verdict_of a)
  pub stands : a ≡ case_of (verdict_of a)

abbrev pub Reported : Drawing → List ℕ → Verdict → Type 0
Reported g r a = (j : ℕ) × Deserves g r j × (a ≡ case_of (rules.J j))
