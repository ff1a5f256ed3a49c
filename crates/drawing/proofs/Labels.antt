-- Labels and large corners: a labelling says no more than which corners are large. Assumes nothing.
--   label-sum        labels made of "1 if plain, 2 if large" sum to the corners of the face, less its switches, and twice its large corners
--   labelled         large switch corners, one at each source and sink and none elsewhere, in each face as many as its room: a labelling
--   large-room       in a labelling the large corners of a face are as many as its room
use mathlib.Core.Path.{◌≡◌, refl, sym, ◌∙◌}
use mathlib.Core.Logic.{◌⊎◌, inl, inr}
use mathlib.Core.List.{List}
use Prim.Native.Nat.{ℕ, ◌+◌, ◌*◌, ◌%◌, ◌<◌, ◌≤◌}
use native.Mathlib.Nat.{eq-zero-or-pos}
use native.Mathlib.Decide.{ℕ_discrete}
use native.Mathlib.Omega.{arith}
use lib.ListN.{length, get_or}
use Rattle.finite.specs.Sums.{bit, δ, class}
use Rattle.finite.proofs.Sum.{δ-eq, δ_other}
use Rattle.finite.proofs.Class.{class-add, class_cong}
use Rattle.drawing.specs.Drawing.{Drawing, darts, event, face, corner_face, outer_face, plain, switch, corners, switches, room1, pole}
use Rattle.drawing.specs.Conditions.{OuterKnown, Rings, label, labels, larges, Labelling}
use Rattle.drawing.proofs.Faces.{face_into, face-face}
use Rattle.drawing.proofs.Parity.{switches_even}

pub label-sum : (g : Drawing) (lab large : ℕ → ℕ) → ((c : ℕ) → c < darts g → lab c + switch g c ≡ 1 + (large c + large c)) → (f : ℕ)
    → class (darts g) (corner_face g) lab f + switches g f ≡ corners g f + 2 * class (darts g) (corner_face g) large f
unfolding switches corners
label-sum g lab large each f =
    let n = darts g in
    let k = corner_face g in
    omega (
      arith,
      class_cong n k (λ c. lab c + switch g c) (λ c. 1 + (large c + large c)) f (λ c l q. each c l),
      class-add n k lab (switch g) f,
      class-add n k (λ c. 1) (λ c. large c + large c) f,
      class-add n k large large f,
    )

module _ (g : Drawing) (even : darts g % 2 ≡ 0) (R : Rings g) where
  pub labelled : OuterKnown g → (large : ℕ → ℕ) (l : List ℕ)
      → ((c : ℕ) → c < darts g → large c ≤ switch g c)
      → ((v : ℕ) → v < g.events → class (darts g) (event g) large v ≡ bit (pole g v))
      → ((f : ℕ) → f < darts g → face g f ≡ f → class (darts g) (corner_face g) large f + 1 ≡ room1 g f)
      → length l ≡ darts g
      → ((c : ℕ) → c < darts g → get_or l c 0 ≡ 2 * large c + plain g c)
      → Labelling g l
  unfolding larges labels room1
  labelled out large l le ends full size has = record {
    size = size;
    plains = λ c k e. omega (arith, le c k, has c k);
    switches = λ c k e. two c k e (eq-zero-or-pos (large c));
    events = λ v k. class_cong (darts g) (event g) (λ c. δ (label l c) 2) large v (λ c j q. is_two c j (eq-zero-or-pos (large c))) ∙ ends v k;
    inner = λ f k e d. omega (arith, sums f, full f k e, switches_even g even R f, δ_other (outer_face g) f (λ q. d (sym q)));
    outer =
        let f = outer_face g in
        omega (arith, sums f, full f (face_into g even R g.outer out) (face-face g even R g.outer out), switches_even g even R f, δ-eq f f refl);
  }
    where
      two : (c : ℕ) → c < darts g → switch g c ≡ 1 → (large c ≡ 0) ⊎ (0 < large c) → (label l c ≡ 0) ⊎ (label l c ≡ 2)
      two c k e (inl z) = inl (omega (arith, has c k))
      two c k e (inr z) = inr (omega (arith, has c k, le c k))

      is_two : (c : ℕ) → c < darts g → (large c ≡ 0) ⊎ (0 < large c) → δ (label l c) 2 ≡ large c
      is_two c k (inl z) = δ_other (label l c) 2 (λ q. omega (arith, has c k)) ∙ sym z
      is_two c k (inr z) = let o : large c ≡ 1 = omega (arith, le c k) in δ-eq (label l c) 2 (omega (arith, has c k, le c k)) ∙ sym o

      sums : (f : ℕ) → class (darts g) (corner_face g) (label l) f + switches g f ≡ corners g f + 2 * class (darts g) (corner_face g) large f
      sums f = label-sum g (label l) large (λ c k. omega (arith, has c k, le c k)) f

  pub large-room : (l : List ℕ) → Labelling g l
      → (f : ℕ) → f < darts g → face g f ≡ f → class (darts g) (corner_face g) (λ c. δ (label l c) 2) f + 1 ≡ room1 g f
  unfolding labels room1
  large-room l L f k e =
      let s = label-sum g (label l) (λ c. δ (label l c) 2) parts f in
      elim (ℕ_discrete f (outer_face g)) [
        | yes q ↦ omega (arith, s, rw (← q) at L.outer, switches_even g even R f, δ-eq (outer_face g) f (sym q))
        | no d ↦ omega (arith, s, L.inner f k e d, switches_even g even R f, δ_other (outer_face g) f (λ q. d (sym q)))
      ]
    where
      big : (c : ℕ) → (label l c ≡ 0) ⊎ (label l c ≡ 2) → switch g c ≡ 1 → label l c + switch g c ≡ 1 + (δ (label l c) 2 + δ (label l c) 2)
      big c (inl z) s = omega (arith, δ_other (label l c) 2 (omega arith))
      big c (inr z) s = omega (arith, δ-eq (label l c) 2 z)

      parts : (c : ℕ) → c < darts g → label l c + switch g c ≡ 1 + (δ (label l c) 2 + δ (label l c) 2)
      parts c j =
          elim (ℕ_discrete (plain g c) 1) [
            | yes o ↦ let z : label l c ≡ 1 = L.plains c j o in omega (arith, δ_other (label l c) 2 (omega arith))
            | no d ↦ let s : switch g c ≡ 1 = omega arith in big c (L.switches c j s) s
          ]
