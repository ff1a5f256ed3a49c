-- What the two passes of `cut_holds` say of a cut. Assumes nothing.
--   touched_at     a list touches a face if one of its entries does
--   touched_hit    a face is touched by the list exactly if its key is hit by a corner of a marked event
--   larger_total   a list is larger than its room exactly if it is larger than the room taken out
--   cut_fit        a cut fits the table of the sources and sinks
--   refused        a list that does not fit is no cut
--   judged         a list that fits is a cut exactly if the room taken out is below its length
use mathlib.Core.Path.{◌≡◌, sym, ap, subst, ◌∙◌}
use mathlib.Core.Logic.{◌≢◌, ◌↔◌, ◌⊎◌, inl, inr}
use mathlib.Core.Bool.{Bool, true, false, cond, ◌&&◌}
use mathlib.Core.List.{List, [], ◌∷◌}
use Prim.Native.Nat.{ℕ, zero, suc, ◌+◌, ◌*◌, ◌%◌, ◌<◌}
use native.Mathlib.Omega.{arith}
use lib.Dec.{T, ltb}
use lib.IntN.{pos}
use lib.Signed.{◌<ℤ◌}
use lib.ListN.{length}
use Rattle.finite.specs.Sums.{bit, sum, count, δ}
use Rattle.finite.specs.Lists.{All}
use Rattle.finite.specs.Says.{Says}
use Rattle.finite.proofs.Sum.{sum_cong, sum-add, δ-eq, δ_other}
use Rattle.drawing.specs.Drawing.{Drawing, darts, event, twin, face, faces, is_face, corner_face, room1, pole, touches}
use Rattle.drawing.specs.Conditions.{EventsKnown, Rings, touched, room_of, Cut}
use Rattle.finite.proofs.Yes.{says_as, says_lt}
use Rattle.finite.proofs.Extra.{bit_yes, eqb_cases, or_left, or_right}
use Rattle.drawing.proofs.Twins.{twin_into}
use Rattle.drawing.proofs.Faces.{corner_twin}
use Rattle.drawing.proofs.Cuts.{touches_own, touched_corner}
use Rattle.drawing.proofs.Signed.{larger_one}
use Rattle.rules.specs.Chart.{drawing}
use Rattle.rules.proofs.Bytes.{darts_even}
use Rattle.words.specs.Tables.{nth}
use Rattle.chart.specs.Shape.{Shape}
use Rattle.chart.specs.Held.{Keyed, Poled, Roomed}
use Rattle.chart.proofs.Keys.{key_of, key_into, key_corner, keys_sum}
use Rattle.cuts.specs.Tables.{Tables}
use Rattle.cuts.specs.Marks.{Fit, Marked}
use Rattle.cuts.specs.Sweep.{Hit, Swept}
use Rattle.finite.proofs.Lists.{all_at, all_of}

module _ (g : Drawing) where
  pub touched_at : (l : List ℕ) (f i : ℕ) → i < length l → T (touches g (nth l i) f) → T (touched g l f)
  touched_at [] f i h t = absurd (omega arith)
  touched_at (v ∷ l) f zero h t = or_left (touches g v f) (touched g l f) t
  touched_at (v ∷ l) f (suc i) h t = or_right (touches g v f) (touched g l f) (touched_at l f i (omega arith) t)

  module _ (even : darts g % 2 ≡ 0) (R : Rings g) (known : EventsKnown g) (here : List ℕ) (H : Keyed g here) (l q : List ℕ) (marked : Marked l q) (size : length q ≡ g.events) where
    -- the key of a face is hit exactly if the list touches the face
    pub touched_hit : (f : ℕ) → f < darts g → face g f ≡ f → T (touched g l f) ↔ Hit g here q (darts g) (key_of here f)
    touched_hit f b e = (
      λ t.
          let c = touched_corner g (λ v. nth q v ≡ 2) l f marked.all t in
          (c.0, c.1, (c.2.0, sym (key_corner even R H c.0 c.1) ∙ ap (key_of here) c.2.1)),
      λ h.
          let t = marked.only (event g h.0) (omega (arith, known h.0 h.1)) h.2.0 in
          let k : corner_face g h.0 ≡ f = (H.same h.0 (twin f) h.1 (twin_into (darts g) even f b)).1 h.2.1 ∙ corner_twin g even R f b ∙ e in
          touched_at l f t.0 t.1 (subst (λ (v : ℕ). T (touches g v f)) (sym t.2) (subst (λ (k : ℕ). T (touches g (event g h.0) k)) k (touches_own g h.0 h.1))),
    )

    module _ (s₀ s : List ℕ) (x : ℕ) (rooms : Roomed g here s₀) (swept : Swept g here q s₀ (darts g) x s) where
      abbrev p : ℕ → Bool
      p f = is_face g f && touched g l f

      -- the room of a face, at its key, is out if it is touched, with one more, and left if not
      each : (f : ℕ) → f < darts g → cond (p f) (room1 g f) 0 + δ (face g f) f * nth s (key_of here f) ≡ δ (face g f) f * nth s₀ (key_of here f) + bit (p f)
      each f k = go (eqb_cases (face g f) f) (touched g l f) (touched_hit f k)
        where
          i : key_of here f < faces g
          i = key_into even R H f k

          go : ((is_face g f ≡ true) × (face g f ≡ f)) ⊎ ((is_face g f ≡ false) × (face g f ≢ f)) → (b : Bool) → (face g f ≡ f → T b ↔ Hit g here q (darts g) (key_of here f))
              → cond (is_face g f && b) (room1 g f) 0 + δ (face g f) f * nth s (key_of here f) ≡ δ (face g f) f * nth s₀ (key_of here f) + bit (is_face g f && b)
          go (inl e) true h =
              rw (e.0, δ-eq (face g f) f e.1)
              (omega (arith, rooms.each (twin f) (twin_into (darts g) even f k), ap (room1 g) (corner_twin g even R f k ∙ e.1), swept.out (key_of here f) i ((h e.1).0 tt)))
          go (inl e) false h = rw (e.0, δ-eq (face g f) f e.1) (omega (arith, swept.kept (key_of here f) i (λ z. absurd ((h e.1).1 z))))
          go (inr e) b h = rw (e.0, δ_other (face g f) f e.1) (omega arith)

      in_all : sum (darts g) (λ f. cond (p f) (room1 g f) 0) ≡ x + count (darts g) p
      in_all =
          omega (
            arith,
            swept.whole,
            keys_sum even R H (nth s),
            keys_sum even R H (nth s₀),
            sum_cong (darts g) (λ f. cond (p f) (room1 g f) 0 + δ (face g f) f * nth s (key_of here f)) (λ f. δ (face g f) f * nth s₀ (key_of here f) + bit (p f)) each,
            sum-add (darts g) (λ f. cond (p f) (room1 g f) 0) (λ f. δ (face g f) f * nth s (key_of here f)),
            sum-add (darts g) (λ f. δ (face g f) f * nth s₀ (key_of here f)) (λ f. bit (p f)),
          )

      pub larger_total : (room_of g l <ℤ pos (length l)) ↔ (x < length l)
      larger_total = ((λ h. omega (arith, (larger_one g l).0 h, in_all)), (λ h. (larger_one g l).1 (omega (arith, in_all))))

  module _ (t l : List ℕ) (poled : Poled g t) where
    pub cut_fit : Cut g l → Fit t l
    cut_fit c =
        record {
          ascending = c.ascending;
          ones = all_of (λ v. (v < length t) × (nth t v ≡ 1)) l (λ i h. let a = all_at (λ v. (v < g.events) × T (pole g v)) l c.poles i h in (
            omega (arith, poled.size, a.0),
            poled.each (nth l i) a.0 ∙ (bit_yes (pole g (nth l i))).0 a.1,
          ));
        }

    fit_poles : Fit t l → All (λ v. (v < g.events) × T (pole g v)) l
    fit_poles f = all_of (λ v. (v < g.events) × T (pole g v)) l (λ i h.
        let a = all_at (λ v. (v < length t) × (nth t v ≡ 1)) l f.ones i h in
        let k : nth l i < g.events = omega (arith, poled.size, a.0) in
        (k, (bit_yes (pole g (nth l i))).1 (sym (poled.each (nth l i) k) ∙ a.1)))

module _ {s : List ℕ} {n : ℕ} {here t s₀ : List ℕ} (S : Shape s n) (z : Tables (drawing s) here t s₀) where
  module _ (l q : List ℕ) where
    pub refused : (Fit t l → ⊥) → Cut (drawing s) l → ⊥
    refused d c = d (cut_fit (drawing s) t l z.poled c)

    pub judged : Fit t l × Marked l q → length q ≡ length t → {x : ℕ} {s' : List ℕ} → Swept (drawing s) here q s₀ n x s' → (k : ℕ) → length l ≡ k
        → Says (ltb x k) (Cut (drawing s) l)
    judged f size {x} {s'} swept k long =
        says_as (ltb x k)
        (λ h. record { ascending = f.0.ascending; poles = fit_poles (drawing s) t l z.poled f.0; larger = larger.1 (omega arith) })
        (λ c. omega (arith, larger.0 c.larger))
        (says_lt x k)
      where
        larger : (room_of (drawing s) l <ℤ pos (length l)) ↔ (x < length l)
        larger =
            larger_total (drawing s) (darts_even s) z.corners.rings z.corners.known here z.corners.keyed l q f.1 (size ∙ z.poled.size) s₀ s' x z.roomed
            (subst (λ (c : ℕ). Swept (drawing s) here q s₀ c x s') S.darts swept)
