-- What a run of the test leaves is what a listing is printed from. Assumes nothing.
use mathlib.Core.Path.{◌≡◌, sym, ap, subst, ◌∙◌}
use mathlib.Core.Logic.{inl, inr}
use mathlib.Core.List.{List, ◌∷◌}
use Prim.Native.Nat.{ℕ, ◌≤◌}
use native.Mathlib.Omega.{arith}
use lib.Dec.{T}
use lib.ListN.{length, take, drop, length-take}
use lib.Seq.{take_at}
use Rattle.drawing.specs.Drawing.{darts}
use Rattle.drawing.specs.Conditions.{EventsKnown}
use Rattle.rules.specs.Chart.{drawing}
use Rattle.rules.specs.Tests.{Test, number, Passes, Given, report_room, tests, short, mark, version, counts, size, unknown}
use Rattle.rules.specs.Report.{writes, report, Outcome}
use Rattle.rules.proofs.Chain.{given_highest}
use Rattle.rules.proofs.Bytes.{darts-drawing}
use Rattle.chart.specs.Shape.{Shape}
use Rattle.chart.proofs.Form.{shape}
use Rattle.lines.specs.Printed.{Reported}

-- a result that writes a report is past every test whose number writes none
past : (t : Test) (ts : List Test) (s : List ℕ) (r n : ℕ) → (T (writes (number t)) → ⊥) → T (writes n) → Given (t ∷ ts) s r n → Passes t s r × Given ts s r n
past t ts s r n none w (inl g) = absurd (none (subst (λ (k : ℕ). T (writes k)) g.1 w))
past t ts s r n none w (inr g) = g

pub given_shape : (s : List ℕ) (r n : ℕ) → Given tests s r n → T (writes n) → Shape s (darts (drawing s)) × EventsKnown (drawing s)
given_shape s r n g w =
    let a = past short (drop 1 tests) s r n (λ f. f) w g in
    let b = past mark (drop 2 tests) s r n (λ f. f) w a.1 in
    let c = past version (drop 3 tests) s r n (λ f. f) w b.1 in
    let d = past counts (drop 4 tests) s r n (λ f. f) w c.1 in
    let e = past size (drop 5 tests) s r n (λ f. f) w d.1 in
    let f = past unknown (drop 6 tests) s r n (λ f. f) w e.1 in
    (rw (darts-drawing s) (shape s d.0 e.0), f.0)

module _ (s r : List ℕ) (n w : ℕ) (r' : List ℕ) (O : Outcome s r n w r') where
  -- the stretch that the test wrote
  pub outcome_stretch : take w r' ≡ report n O.entries
  outcome_stretch = ap (take w) O.left ∙ take_at (report n O.entries) _ w (sym O.written)

  pub outcome_reported : length r' ≤ report_room → Reported s n (take w r')
  outcome_reported room = record {
    entries = O.entries;
    stretch = outcome_stretch;
    allowed = O.allowed;
    small = given_highest tests s (length r) n O.given;
    room = omega (arith, length-take w r');
    shape = λ t. (given_shape s (length r) n O.given t).0;
    known = λ t. (given_shape s (length r) n O.given t).1;
  }
