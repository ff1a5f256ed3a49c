-- The tests of the form and of the drawing make the outcome. Assumes nothing.
use mathlib.Core.Path.{refl}
use mathlib.Core.Logic.{◌≢◌, inl, inr}
use mathlib.Core.List.{List, [], ◌∷◌, ◌++◌}
use Prim.Native.Nat.{ℕ, ◌≤◌, ◌<◌}
use native.Mathlib.Omega.{arith}
use lib.ListN.{length}
use Rattle.rules.specs.Tests.{short, tests, report_room, Given}
use Rattle.rules.specs.Report.{Run, Outcome}
use Rattle.rules.proofs.Chain.{given_highest}
use Rattle.chart.specs.Form.{form_tests}
use Rattle.survey.specs.Past.{order_tests}
use Rattle.survey.proofs.Passing.{order_small}
use Rattle.findings.specs.Stretch.{past_tests}
use Rattle.findings.proofs.Running.{silent_run, run_as, run_before, run_after}
use Rattle.desk.specs.Stretch.{drawn_tests}
use Rattle.chart.specs.Faults.{fault_number as file_number}
use Rattle.chart.specs.declared.Fault as file
use Rattle.chart.specs.declared.Fault.TheVariants.{Mark, Version, Counts, Length, UnknownEvent, OwnArrow, OuterDart}
use Rattle.survey.specs.Faults.{fault_number as drawing_number}
use Rattle.survey.specs.declared.Fault as drawing
use Rattle.survey.specs.declared.Fault.TheVariants.{Order, Parted, Crossing, Mixed, Circle}

-- the tests of the form give no number above 8
pub form_small : (s : List ℕ) (r : ℕ) → Given form_tests s 0 r → r ≤ 8
form_small s r g = given_highest form_tests s 0 r g

-- a fault of tests 9 and 10 writes nothing
pub order_run : (s b : List ℕ) (n : ℕ) → n ≢ 0 → Given order_tests s 0 n → Run drawn_tests s b n 0 b
order_run s b n some g =
    run_before order_tests past_tests s b n 0 b some (silent_run order_tests s b n g some (omega (arith, order_small s n g)))

-- and without one the later tests run
pub past_run : (s b : List ℕ) (n w : ℕ) (b' : List ℕ) → Given order_tests s 0 0 → Run past_tests s b n w b' → Run drawn_tests s b n w b'
past_run s b n w b' g R = run_after order_tests past_tests s b n w b' g R

-- with report room enough, the tests 2 to 14 give the outcome
pub room_outcome : (s b : List ℕ) (n w : ℕ) (b' : List ℕ) → report_room ≤ length b → Run (form_tests ++ drawn_tests) s b n w b' → Outcome s b n w b'
room_outcome s b n w b' l R = run_as tests s b n w b' (inr (l, R.given)) R

-- and without, it is 1
pub short_outcome : (s b : List ℕ) → length b < report_room → Outcome s b 1 0 b
short_outcome s b l =
    let R = silent_run (short ∷ []) s b 1 (inl ((λ h. omega arith), refl)) (λ e. omega arith) (omega arith) in
    record { given = inl ((λ h. omega arith), refl); entries = R.entries; allowed = R.allowed; written = R.written; left = R.left }

-- the number of a fault is never 0, which says that there is none

pub some_file : (f : file.Fault) → file_number f ≢ 0
some_file Mark e = absurd (omega arith)
some_file Version e = absurd (omega arith)
some_file Counts e = absurd (omega arith)
some_file Length e = absurd (omega arith)
some_file UnknownEvent e = absurd (omega arith)
some_file OwnArrow e = absurd (omega arith)
some_file OuterDart e = absurd (omega arith)

pub some_drawn : (f : drawing.Fault) → drawing_number f ≢ 0
some_drawn Order e = absurd (omega arith)
some_drawn Parted e = absurd (omega arith)
some_drawn Crossing e = absurd (omega arith)
some_drawn Mixed e = absurd (omega arith)
some_drawn (Circle k) e = absurd (omega arith)
