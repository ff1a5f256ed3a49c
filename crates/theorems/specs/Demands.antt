-- The three demands on the test and the judge, each as a statement. Assumes nothing.
--   Refuses t s r          the number of the test t is due: t fails, and no earlier test does
--   Demand1 s r n w r'     what is written, and which number is given
--   Acceptable s           well formed, connected, without crossings, free of circles, unmixed, and with a labelling
--   Demand2 s r n w r'     what is accepted, and what the report then shows
--   YesHolds, NoHolds      what the judge confirms as a yes, and as a no
--   Demand3 s              the judge on a chart past test 13
-- s is the chart; a run of the test lends it the report r, and it answers n, writes w bytes and leaves the report r'.
use Rattle.std.specs.Prelude.{◌≡◌, ◌↔◌, ◌⊎◌, true, List, ℕ, ◌<◌, ◌≤◌, T, pos, ◌<ℤ◌, length, take, drop}
use Rattle.finite.specs.Lists.{All, Ascending}
use Rattle.drawing.specs.Drawing.{Drawing, darts, pole}
use Rattle.drawing.specs.Conditions.{Joined, Planar, NoneMixed, NoCircle, Labelling, Drawable, room_of}
use Rattle.rules.specs.Chart.{drawing}
use Rattle.rules.specs.Tests.{Test, number, Passes, report_room}
use Rattle.rules.specs.Report.{Entries, Outcome, report, is_well_formed, result_in, count_in, entries}
use Rattle.rules.specs.Judge.{Verdict, J, Judged}

-- ---- demand 1. "Refusals 1 to 11 write nothing; the others write only the report that 01 lays out; bytes beyond it keep their values.
-- Each refusal has one number, given exactly when document 01 says."

-- "Given exactly when no earlier one is and" the test fails, with r bytes of report lent
pub record Refuses (t : Test) (s : List ℕ) (r : ℕ) : Type 0 where
  pub earlier : (u : Test) → number u < number t → Passes u s r
  pub fails : ¬ Passes t s r

pub record Demand1 (s r : List ℕ) (n w : ℕ) (r' : List ℕ) : Type 0 where
  -- "Refusals 1 to 11 write nothing"
  pub silent : 1 ≤ n → n ≤ 11 → (w ≡ 0) × (r' ≡ r)
  -- "the others write only the report that 01 lays out"
  pub laid : (l : List ℕ) × Entries (drawing s) n l × (take w r' ≡ report n l)
  -- "bytes beyond it keep their values"
  pub beyond : drop w r' ≡ drop w r
  -- "given exactly when document 01 says", and 0 exactly when no test fails
  pub refused : (t : Test) → (n ≡ number t) ↔ Refuses t s (length r)
  pub passed : (n ≡ 0) ↔ ((t : Test) → Passes t s (length r))
  -- "Each refusal has one number"
  pub one : (m v : ℕ) (r'' : List ℕ) → Outcome s r m v r'' → n ≡ m

-- ---- demand 2. "With full report room, a chart is accepted exactly if it is well formed, connected, drawn without crossings, free of circles,
-- unmixed at every event, and has a labelling of its corners that meets the published conditions. The report shows one."

pub record Acceptable (s : List ℕ) : Type 0 where
  -- the tests 2 to 9
  pub formed : (t : Test) → 2 ≤ number t → number t ≤ 9 → Passes t s 0
  pub connected : Joined (drawing s)
  pub uncrossed : Planar (drawing s)
  pub free : NoCircle (drawing s)
  pub unmixed : NoneMixed (drawing s)
  pub labelled : Drawable (drawing s)

pub record Demand2 (s r : List ℕ) (n w : ℕ) (r' : List ℕ) : Type 0 where
  pub accepted : report_room ≤ length r → (n ≡ 0) ↔ Acceptable s
  pub shown : n ≡ 0 → Labelling (drawing s) (entries (take w r'))

-- ---- demand 3. "For every chart that passes the tests up to circles the judge confirms a yes exactly if the labels meet the conditions, and a no exactly
-- if the list is strictly ascending, names only sources and sinks, and these outnumber the room of all faces they touch. For each such chart some report
-- is confirmed; none has both a yes and a no; our own test's report is always confirmed."

-- the report r of the drawing g: a label for each corner, and these meet the conditions
pub record YesHolds (g : Drawing) (r : List ℕ) : Type 0 where
  pub formed : is_well_formed r ≡ true
  pub result : result_in r ≡ 0
  pub count : count_in r ≡ darts g
  pub labels : Labelling g (entries r)

-- a list, and it is a cut
pub record NoHolds (g : Drawing) (r : List ℕ) : Type 0 where
  pub formed : is_well_formed r ≡ true
  pub result : result_in r ≡ 14
  pub ascending : Ascending (entries r)
  pub poles : All (λ v. (v < g.events) × T (pole g v)) (entries r)
  pub outnumber : room_of g (entries r) <ℤ pos (length (entries r))

pub record Demand3 (s : List ℕ) : Type 0 where
  pub yes_exactly : (r : List ℕ) (v : Verdict) → Judged s r v → (v ≡ J 0) ↔ YesHolds (drawing s) r
  pub no_exactly : (r : List ℕ) (v : Verdict) → Judged s r v → (v ≡ J 1) ↔ NoHolds (drawing s) r
  -- "some report", that is a list of bytes, "is confirmed"
  pub some : (r : List ℕ) × All (λ b. b < 256) r × (Judged s r (J 0) ⊎ Judged s r (J 1))
  pub never_both : (r q : List ℕ) → Judged s r (J 0) → Judged s q (J 1) → ⊥
  pub own : (r : List ℕ) (n w : ℕ) (r' : List ℕ) (v : Verdict) → Outcome s r n w r' → report_room ≤ length r → Judged s (take w r') v → (v ≡ J 0) ⊎ (v ≡ J 1)
