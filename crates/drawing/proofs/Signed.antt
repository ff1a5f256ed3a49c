-- Signed room in the natural numbers, by the room and one more. Assumes nothing.
--   room_one         room1 is the room and one more
--   larger_one       a list of events is larger than its room: one is added for each face touched
use mathlib.Core.Path.{◌≡◌, ap, ◌∙◌}
use mathlib.Core.Logic.{◌↔◌}
use mathlib.Core.Bool.{Bool, true, false, cond, ◌&&◌}
use mathlib.Core.List.{List}
use Prim.Native.Nat.{ℕ, ◌+◌, ◌*◌, ◌/◌, ◌<◌}
use native.Mathlib.Omega.{arith}
use lib.Dec.{eqb}
use lib.IntN.{pos, ◌+ℤ◌, ◌-ℤ◌, -ℤ-+ℤ_cancel}
use lib.Signed.{◌<ℤ◌}
use lib.ListN.{length}
use Rattle.finite.specs.Sums.{bit, sum, count, δ}
use Rattle.drawing.specs.Drawing.{Drawing, darts, is_face, outer_face, switches, room, room1}
use Rattle.drawing.specs.Conditions.{touched, room_of}
use Rattle.finite.proofs.Extra.{sumℤ_one, less_one}

pub room_one : (g : Drawing) (f : ℕ) → room g f +ℤ pos 1 ≡ pos (room1 g f)
unfolding room room1 δ
room_one g f = go (eqb (outer_face g) f) (switches g f / 2)
  where
    go : (b : Bool) (n : ℕ) → cond b (pos (n + 1)) (pos n -ℤ pos 1) +ℤ pos 1 ≡ pos (n + 2 * bit b)
    go true n = ap pos (omega arith)
    go false n = -ℤ-+ℤ_cancel (pos n) (pos 1) ∙ ap pos (omega arith)

pub larger_one : (g : Drawing) (l : List ℕ)
    → (room_of g l <ℤ pos (length l))
    ↔ (sum (darts g) (λ f. cond (is_face g f && touched g l f) (room1 g f) 0) < length l + count (darts g) (λ f. is_face g f && touched g l f))
unfolding room_of
larger_one g l =
    less_one (room_of g l) (count (darts g) (λ f. is_face g f && touched g l f)) _ (length l)
    (sumℤ_one (darts g) (λ f. is_face g f && touched g l f) (room g) (room1 g) (room_one g))
