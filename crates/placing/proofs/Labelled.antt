-- A placement of all sources and sinks, with as much room as there are of them, is a labelling. Assumes nothing.
use mathlib.Core.Path.{◌≡◌, refl, sym, ap, ◌∙◌}
use mathlib.Core.Bool.{Bool, true, false}
use mathlib.Core.List.{List}
use Prim.Native.Nat.{ℕ, ◌+◌, ◌*◌, ◌≤◌, ◌<◌}
use native.Mathlib.Nat.{mul-one, mul-zero}
use native.Mathlib.Omega.{arith}
use lib.ListN.{length, get_or}
use Rattle.finite.specs.Sums.{bit, sum, δ, class}
use Rattle.finite.proofs.Sum.{δ_other, sum_cong, sum_tight}
use Rattle.finite.proofs.Class.{class_total, class_term}
use Rattle.drawing.specs.Drawing.{Drawing, darts, event, faces, corner_face, plain, room1, pole}
use Rattle.drawing.specs.Conditions.{OuterKnown, Labelling}
use Rattle.drawing.proofs.Choices.{Choice, load as chosen, choice_event, choice_face, pole-switch}
use Rattle.words.specs.Tables.{nth}
use Rattle.chart.proofs.Keys.{key_δ, key_class, at_key, faces_few, keyed_labelling}
use Rattle.placing.specs.Board.{Board, face_of, load, All}
use Rattle.placing.proofs.Boards.{face_of_lem, face-none, here_into}
use Rattle.placing.proofs.Finds.{at_own}

module _ {g : Drawing} {here : List ℕ} {poles room : ℕ → ℕ} {L : List ℕ} (B : Board g here) (P : All g here poles room L) (is : (v : ℕ) → v < g.events → poles v ≡ bit (pole g v)) where
  choice : Choice g (nth L)
  choice = record {
    own = λ v l e. let h : nth L v < darts g = P.each v l (is v l ∙ ap bit e) in (h, at_own g L P.own v l h);
    none = λ v l e. P.none v l (λ p. omega (arith, is v l, ap bit e));
  }

  -- what is placed in a face, by key and by face
  in-face : (f : ℕ) → f < faces g → class (darts g) (nth here) (λ c. δ (nth L (event g c)) c) f ≡ load g here L f
  unfolding chosen class
  in-face = at_key B.even B.rings B.keyed (λ f. class (darts g) (nth here) (λ c. δ (nth L (event g c)) c) f ≡ load g here L f) (λ c l.
      key_class B.keyed (λ c. δ (nth L (event g c)) c) c l
      ∙ choice_face g (nth L) choice B.known (corner_face g c)
      ∙ sum_cong g.events (λ v. δ (corner_face g (nth L v)) (corner_face g c) * bit (pole g v)) (λ v. δ (face_of here (nth L v)) (nth here c)) (λ v k. go c l v k (pole g v) refl))
    where
      go : (c : ℕ) → c < darts g → (v : ℕ) → v < g.events → (b : Bool) → pole g v ≡ b → δ (corner_face g (nth L v)) (corner_face g c) * bit b ≡ δ (face_of here (nth L v)) (nth here c)
      go c l v k true p =
          let h : nth L v < darts g = (choice.own v k p).0 in
          mul-one (δ (corner_face g (nth L v)) (corner_face g c)) ∙ sym (key_δ B.keyed (nth L v) c h l) ∙ ap (λ (x : ℕ). δ x (nth here c)) (sym (face_of_lem here (nth L v) (omega (arith, B.keyed.size))))
      go c l v k false p =
          let h : darts g ≤ nth L v = choice.none v k p in
          mul-zero (δ (corner_face g (nth L v)) (corner_face g c))
          ∙ sym (δ_other (face_of here (nth L v)) (nth here c) (omega (arith, face-none here (nth L v) (omega (arith, B.keyed.size)), B.keyed.size, here_into B c l, faces_few g)))

  pub is_labelling : OuterKnown g
      → ((c : ℕ) → c < darts g → room (nth here c) + 1 ≡ room1 g (corner_face g c))
      → sum (faces g) room ≡ sum g.events poles
      → (l : List ℕ) → length l ≡ darts g → ((c : ℕ) → c < darts g → get_or l c 0 ≡ 2 * δ (nth L (event g c)) c + plain g c)
      → Labelling g l
  is_labelling out rooms total l size has =
      keyed_labelling B.even B.rings B.keyed out large l
      (λ c k. omega (arith, class_term (darts g) (event g) large c k, each (event g c) (B.known c k), pole-switch g B.even B.rings c k))
      each (λ c k. omega (arith, full (nth here c) (here_into B c k), rooms c k)) size has
    where
      large : ℕ → ℕ
      large c = δ (nth L (event g c)) c

      each : (v : ℕ) → v < g.events → class (darts g) (event g) large v ≡ bit (pole g v)
      each = choice_event g (nth L) choice

      -- as many places as sources and sinks: every face is full
      full : (f : ℕ) → f < faces g → class (darts g) (nth here) large f ≡ room f
      full =
          sum_tight (faces g) (class (darts g) (nth here) large) room (λ f k. omega (arith, in-face f k, P.fits f k))
          (class_total (darts g) (faces g) (nth here) large (here_into B)
          ∙ sym (class_total (darts g) g.events (event g) large B.known)
          ∙ sum_cong g.events (class (darts g) (event g) large) poles (λ v k. each v k ∙ sym (is v k))
          ∙ sym total)
