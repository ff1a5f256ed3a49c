-- The judge: the chart's fault 2 to 13, or what the report deserves (document 01, "The judge"). Assumes nothing.
use Rattle.std.specs.Prelude.{◌≡◌, ◌≢◌, ◌⊎◌, Bool, cond, ◌&&◌, ◌||◌, List, ℕ, eqb}
use Rattle.drawing.specs.Drawing.{Drawing, darts}
use Rattle.drawing.specs.Conditions.{Labelling, Cut}
use Rattle.rules.specs.Chart.{drawing}
use Rattle.rules.specs.Tests.{faults, Given}
use Rattle.rules.specs.Report.{is_well_formed, result_in, count_in, entries}

-- the chart's refusal by its number, or J0 to J4: "the verdict carries the chart's refusal or the report's own fault, never a bare no"
pub data Verdict : Type 0 where
  chart : ℕ → Verdict
  J : ℕ → Verdict

-- not "J2 bad form, or a result other than 0 or 14, or result 0 with a count other than 2A"
unfoldable pub fits : Drawing → List ℕ → Bool
fits g r = is_well_formed r && (eqb (result_in r) 0 && eqb (count_in r) (darts g) || eqb (result_in r) 14)

-- j is a where P holds and b where it does not
abbrev pub Either : Type 0 → ℕ → ℕ → ℕ → Type 0
Either P a b j = (P × (j ≡ a)) ⊎ (¬ P × (j ≡ b))

-- "J3 labels break a condition. J4 the list isn't strictly ascending, names something other than a source or sink of this chart, or is no cut. J0 labels hold, J1 cut holds."
abbrev pub Deserves : Drawing → List ℕ → ℕ → Type 0
Deserves g r j =
    cond (fits g r)
    (cond (eqb (result_in r) 0) (Either (Labelling g (entries r)) 0 3 j) (Either (Cut g (entries r)) 1 4 j))
    (j ≡ 2)

-- "A chart fault 2 to 13 is given first. Then the report"
abbrev pub Judged : List ℕ → List ℕ → Verdict → Type 0
Judged s r v =
    ((n : ℕ) × (n ≢ 0) × Given faults s 0 n × (v ≡ chart n))
    ⊎ ((j : ℕ) × Given faults s 0 0 × Deserves (drawing s) r j × (v ≡ J j))
