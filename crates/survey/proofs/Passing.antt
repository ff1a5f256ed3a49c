-- What a chart past the tests has passed. Assumes nothing.
use mathlib.Core.Path.{◌≡◌, subst}
use mathlib.Core.List.{List, [], ◌∷◌}
use Prim.Native.Nat.{ℕ, ◌≤◌}
use Rattle.drawing.specs.Conditions.{Rings, Joined}
use Rattle.rules.specs.Chart.{drawing}
use Rattle.rules.specs.Tests.{Test, order, parted, crossing, mixing, circle, Given}
use Rattle.rules.proofs.Chain.{given_first, given_highest}
use Rattle.survey.specs.Past.{order_tests, face_tests, survey_tests, Formed, Past, Clear}

-- tests 9 and 10 give no number above 10, and test 11 none above 11
pub order_small : (s : List ℕ) (r : ℕ) → Given order_tests s 0 r → r ≤ 10
order_small s r g = given_highest order_tests s 0 r g

pub face_small : (s : List ℕ) (r : ℕ) → Given face_tests s 0 r → r ≤ 11
face_small s r g = given_highest face_tests s 0 r g

-- the fault that is none
pub at_zero : (ts : List Test) (s : List ℕ) (r : ℕ) → r ≡ 0 → Given ts s 0 r → Given ts s 0 0
at_zero ts s r e g = subst (Given ts s 0) e g

pub past_order : (s : List ℕ) → Given order_tests s 0 0 → Rings (drawing s) × Joined (drawing s)
past_order s g =
    let a = given_first order (parted ∷ []) s 0 g in
    let b = given_first parted [] s 0 a.1 in
    (a.0, b.0)

pub past_faces : (s : List ℕ) → Given order_tests s 0 0 → Given face_tests s 0 0 → Past (drawing s)
past_faces s g h =
    let p = past_order s g in
    record { rings = p.0; joined = p.1; planar = (given_first crossing [] s 0 h).0 }

pub survey_clear : (s : List ℕ) → Formed (drawing s) → Given survey_tests s 0 0 → Clear (drawing s)
survey_clear s F g =
    let a = given_first order (parted ∷ crossing ∷ mixing ∷ circle ∷ []) s 0 g in
    let b = given_first parted (crossing ∷ mixing ∷ circle ∷ []) s 0 a.1 in
    let c = given_first crossing (mixing ∷ circle ∷ []) s 0 b.1 in
    let d = given_first mixing (circle ∷ []) s 0 c.1 in
    let e = given_first circle [] s 0 d.1 in
    record { formed = F; past = record { rings = a.0; joined = b.0; planar = c.0 }; unmixed = d.0; free = e.0 }
