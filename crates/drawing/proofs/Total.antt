-- The room of all faces totals the number of sources and sinks (004, Lemma 1). Assumes nothing.
--   no_corner        a dart that names no face has no corner there, so no switch
--   room1-none       and no room1
--   room1_total      the sum of the rooms, each with one more, is the number of sources and sinks and of faces
--   room_total       the signed sum of the rooms is the number of sources and sinks
-- The idea: every corner is a switch or plain. An event that is not mixed has 0 plain corners if it is a source or a sink, and 2 if not. So there are
-- 2A - 2(V - s) switch corners, with s the number of sources and sinks; half of them, less 1 for each face and 2 more for the outer one, is
-- A - V - F + 2 + s, which is s.
use mathlib.Core.Path.{◌≡◌, sym, ap, ◌∙◌}
use mathlib.Core.Logic.{◌≢◌, ◌⊎◌, inl, inr}
use mathlib.Core.Bool.{true, false, cond}
use Prim.Native.Nat.{ℕ, ◌+◌, ◌*◌, ◌/◌, ◌%◌}
use native.Mathlib.Omega.{arith}
use lib.IntN.{pos}
use Rattle.finite.specs.Sums.{bit, sum, count, δ, class}
use Rattle.finite.specs.Lists.{sumℤ}
use Rattle.finite.proofs.Sum.{sum_cong, sum-add, sum-mul, sum_const, sum-δ, δ_other}
use Rattle.finite.proofs.Class.{class_total, class-zero}
use Rattle.drawing.specs.Drawing.{Drawing, darts, event, face, faces, is_face, outer_face, corner_face, plain, switch, switches, room, room1, pole, changes}
use Rattle.drawing.specs.Conditions.{EventsKnown, OuterKnown, Rings, Planar, NoneMixed, RoomTotal}
use Rattle.finite.proofs.Extra.{eqb_cases, sumℤ_one, pos_cancel}
use Rattle.drawing.proofs.Faces.{face_into, face-face, corner_into, corner_face_lem}
use Rattle.drawing.proofs.Parity.{switches_even, event-count}
use Rattle.drawing.proofs.Signed.{room_one}

module _ (g : Drawing) (even : darts g % 2 ≡ 0) (R : Rings g) where
  -- ---- where no face is

  pub no_corner : (w : ℕ → ℕ) (f : ℕ) → face g f ≢ f → class (darts g) (corner_face g) w f ≡ 0
  no_corner w f d =
      class-zero (darts g) (corner_face g) w f (λ c l e. absurd (d (ap (face g) (sym e) ∙ corner_face_lem g even R c l ∙ e)))

  pub room1-none : OuterKnown g → (f : ℕ) → face g f ≢ f → room1 g f ≡ 0
  unfolding room1 switches
  room1-none out f d =
      omega (
        arith,
        no_corner (switch g) f d,
        δ_other (outer_face g) f (λ e. d (ap (face g) (sym e) ∙ face-face g even R g.outer out ∙ e)),
      )

  -- ---- the sum of all rooms

  module _ (known : EventsKnown g) (out : OuterKnown g) (planar : Planar g) (none : NoneMixed g) where
    pub room1_total : sum (darts g) (room1 g) ≡ sum g.events (λ v. bit (pole g v)) + faces g
    unfolding room1 switches changes
    room1_total =
        let n : ℕ = darts g in
        let N : ℕ = g.events in
        let ends : ℕ → ℕ = λ v. bit (pole g v) in
        let half : ℕ → ℕ = λ f. switches g f / 2 in
        let a : sum n (switches g) ≡ sum n (switch g) = class_total n n (corner_face g) (switch g) (corner_into g even R) in
        let b : sum N (changes g) ≡ sum n (plain g) = class_total n N (event g) (plain g) known in
        -- every corner is one of the two
        let c : sum n (switch g) + sum n (plain g) ≡ n * 1 =
        sym (sum-add n (switch g) (plain g)) ∙ sum_cong n (λ c. switch g c + plain g c) (λ c. 1) (λ c l. omega arith) ∙ sum_const n 1 in
        let d : 2 * sum n half ≡ sum n (switches g) =
        sym (sum-mul n 2 half) ∙ sum_cong n (λ f. 2 * half f) (switches g) (λ f l. omega (arith, switches_even g even R f)) in
        let e : sum N (changes g) + 2 * sum N ends ≡ N * 2 =
        ap (λ (x : ℕ). sum N (changes g) + x) (sym (sum-mul N 2 ends))
        ∙ sym (sum-add N (changes g) (λ v. 2 * ends v))
        ∙ sum_cong N (λ v. changes g v + 2 * ends v) (λ v. 2) (λ v l. event-count g even R v (none v l))
        ∙ sum_const N 2 in
        let f : sum n (room1 g) ≡ sum n half + 2 * 1 =
        sum-add n half (λ f. 2 * δ (outer_face g) f)
        ∙ ap (λ (x : ℕ). sum n half + x) (sum-mul n 2 (δ (outer_face g)) ∙ ap (λ (x : ℕ). 2 * x) (sum-δ n (outer_face g) (face_into g even R g.outer out))) in
        omega arith

    pub room_total : RoomTotal g
    unfolding faces δ
    room_total =
        let n : ℕ = darts g in
        let only : sum n (λ f. cond (is_face g f) (room1 g f) 0) ≡ sum n (room1 g) =
        sum_cong n (λ f. cond (is_face g f) (room1 g f) 0) (room1 g) (λ f l. here f (eqb_cases (face g f) f)) in
        pos_cancel (sumℤ n (λ f. cond (is_face g f) (room g f) (pos 0))) (count n (is_face g)) (count g.events (pole g))
        (sumℤ_one n (is_face g) (room g) (room1 g) (room_one g) ∙ ap pos (only ∙ room1_total))
      where
        here : (f : ℕ) → ((is_face g f ≡ true) × (face g f ≡ f)) ⊎ ((is_face g f ≡ false) × (face g f ≢ f)) → cond (is_face g f) (room1 g f) 0 ≡ room1 g f
        here f (inl e) = rw e.0
        here f (inr e) = rw e.0 (sym (room1-none out f e.1))
