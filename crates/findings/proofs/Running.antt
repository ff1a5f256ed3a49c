-- Runs of the tests one after the other. Assumes nothing.
use mathlib.Core.Path.{◌≡◌, refl, sym, ap}
use mathlib.Core.Logic.{◌≢◌, ◌⊎◌, inl, inr}
use mathlib.Core.List.{List, [], ◌++◌}
use Prim.Native.Nat.{ℕ, ◌≤◌, ◌<◌}
use native.Mathlib.Omega.{arith}
use borrow.Author.Tests.{ne_eqb}
use lib.ListN.{length}
use Rattle.drawing.specs.Drawing.{Drawing}
use Rattle.rules.specs.Chart.{drawing}
use Rattle.rules.specs.Tests.{Test, Given}
use Rattle.rules.specs.Report.{Entries, report, Run}
use Rattle.rules.proofs.Chain.{given_append, given_left, given_highest}
use Rattle.report.proofs.Laws.{writes-none}
use Rattle.survey.specs.Past.{later_tests}
use Rattle.survey.specs.Faults.{fault_number}
use Rattle.survey.specs.declared.Fault.{Fault}
use Rattle.survey.specs.declared.Fault.TheVariants.{Order, Parted, Crossing, Mixed, Circle}

-- tests 11 to 13 give no number above 13
pub later_small : (s : List ℕ) (r : ℕ) → Given later_tests s 0 r → r ≤ 13
later_small s r g = given_highest later_tests s 0 r g

no_entries : (g : Drawing) (n : ℕ) → n ≢ 0 → n < 12 → Entries g n []
no_entries g n z l = simp (ne_eqb n 0 z, ne_eqb n 12 (λ e. omega arith), ne_eqb n 13 (λ e. omega arith), ne_eqb n 14 (λ e. omega arith)) refl

no_report : (n : ℕ) → n ≢ 0 → n < 12 → report n [] ≡ []
unfolding report
no_report n z l = simp (writes-none n z l)

-- the numbers 1 to 11 write nothing
pub silent_run : (ts : List Test) (s b : List ℕ) (n : ℕ) → Given ts s (length b) n → n ≢ 0 → n < 12 → Run ts s b n 0 b
silent_run ts s b n g z l = record {
  given = g;
  entries = [];
  allowed = no_entries (drawing s) n z l;
  written = sym (ap length (no_report n z l));
  left = sym (ap (λ (x : List ℕ). x ++ b) (no_report n z l));
}

-- what other tests give and write, where they give the same number
pub run_as : {ts : List Test} (us : List Test) (s b : List ℕ) (n w : ℕ) (b' : List ℕ) → Given us s (length b) n → Run ts s b n w b' → Run us s b n w b'
run_as us s b n w b' g R = record { given = g; entries = R.entries; allowed = R.allowed; written = R.written; left = R.left }

-- later tests, where the earlier ones find nothing
pub run_after : (ts us : List Test) (s b : List ℕ) (n w : ℕ) (b' : List ℕ) → Given ts s (length b) 0 → Run us s b n w b' → Run (ts ++ us) s b n w b'
run_after ts us s b n w b' g R = run_as (ts ++ us) s b n w b' (given_append ts us s (length b) n g R.given) R

-- a fault of the earlier tests
pub run_before : (ts us : List Test) (s b : List ℕ) (n w : ℕ) (b' : List ℕ) → n ≢ 0 → Run ts s b n w b' → Run (ts ++ us) s b n w b'
run_before ts us s b n w b' z R = run_as (ts ++ us) s b n w b' (given_left ts us s (length b) n z R.given) R

-- ---- the faults of tests 11 to 13: those with evidence, and those that write nothing

pub listed_fault : (f : Fault) → (f ≡ Mixed) ⊎ ((k : ℕ) × (f ≡ Circle k)) → 12 ≤ fault_number f
listed_fault f (inl e) = omega (arith, ap fault_number e)
listed_fault f (inr (k, e)) = omega (arith, ap fault_number e)

pub silent_fault : (f : Fault) → (f ≡ Mixed → ⊥) → ((k : ℕ) → f ≡ Circle k → ⊥) → (fault_number f ≢ 0) × (fault_number f < 12)
silent_fault Order a b = (λ e. omega arith, omega arith)
silent_fault Parted a b = (λ e. omega arith, omega arith)
silent_fault Crossing a b = (λ e. omega arith, omega arith)
silent_fault Mixed a b = absurd (a refl)
silent_fault (Circle k) a b = absurd (b k refl)
