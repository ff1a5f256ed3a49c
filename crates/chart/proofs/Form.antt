-- What the tests 2 to 8 leave of a chart. Assumes nothing.
use mathlib.Core.Path.{sym}
use mathlib.Core.List.{List, [], ◌∷◌}
use Prim.Native.Nat.{ℕ, ◌*◌}
use native.Mathlib.Omega.{arith}
use Rattle.rules.specs.Chart.{drawing, arrows_in}
use Rattle.rules.specs.Tests.{Given, Passes, mark, version, counts, size, unknown, own, outer}
use Rattle.rules.proofs.Bytes.{darts-drawing}
use Rattle.rules.proofs.Chain.{given_first, given_parts}
use Rattle.chart.specs.Shape.{Shape}
use Rattle.chart.specs.Form.{header_tests, table_tests, form_tests, Sound}

-- the tests 4 and 5 leave the two tables whole
pub shape : (s : List ℕ) → Passes counts s 0 → Passes size s 0 → Shape s (2 * arrows_in s)
unfolding drawing
shape s c l = record {
  darts = sym (darts-drawing s);
  even = omega arith;
  some = omega arith;
  few = omega arith;
  size = omega arith;
  events = (c.0, c.1);
}

pub given_shape : (s : List ℕ) → Given header_tests s 0 0 → Shape s (2 * arrows_in s)
given_shape s g =
    let m = given_first mark (version ∷ counts ∷ size ∷ []) s 0 g in
    let v = given_first version (counts ∷ size ∷ []) s 0 m.1 in
    let c = given_first counts (size ∷ []) s 0 v.1 in
    shape s c.0 (given_first size [] s 0 c.1).0

pub given_formed : (s : List ℕ) → Given form_tests s 0 0 → Sound s
given_formed s g =
    let h = given_parts header_tests table_tests s 0 g in
    let k = given_first unknown (own ∷ outer ∷ []) s 0 h.1 in
    let o = given_first own (outer ∷ []) s 0 k.1 in
    record { shape = given_shape s h.0; known = k.0; own = o.0; outer = (given_first outer [] s 0 o.1).0 }
