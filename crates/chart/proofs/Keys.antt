-- Faces by key: what is summed by key is what is summed by face. Assumes nothing.
--   key_δ, key_class     a class of the keys is a class of the faces
--   at_face              what holds at the face of every corner holds at every face
--   key_face, key_met    every key below the number of faces is a face's, and a corner's
--   keys_sum             a sum over keys is the sum over the darts that name a face
--   rooms_sum, keyed_cut, keyed_labelling    the rooms' total, a cut and a labelling, by key
--   numbered             the faces as they are numbered, by their lowest darts, are keys
use mathlib.Core.Path.{◌≡◌, sym, ap, ◌∙◌, subst}
use lib.Dec.{T}
use lib.ListN.{length, get_or}
use mathlib.Core.List.{List}
use Prim.Native.Nat.{ℕ, ◌+◌, ◌*◌, ◌%◌, ◌≤◌, ◌<◌}
use native.Mathlib.Nat.{mul-one, one-mul, mul-zero, zero-mul}
use native.Mathlib.Decide.{ℕ_discrete, dec_lt}
use native.Mathlib.Omega.{arith}
use Rattle.finite.specs.Sums.{bit, sum, δ, class}
use Rattle.finite.specs.Steps.{Into}
use Rattle.finite.proofs.Sum.{sum_cong, sum-add, sum_mono, sum_const, sum-δ, sum_tight, sum_prefix, δ-eq, δ_other, δ-le}
use Rattle.finite.proofs.Class.{class_total, class_some, class-zero, spread}
use Rattle.finite.specs.Lists.{All, Ascending}
use Rattle.finite.proofs.Decide.{any?, ◌×?◌}
use Rattle.finite.proofs.Extra.{δ_some}
use Rattle.drawing.specs.Drawing.{Drawing, darts, event, twin, face, faces, corner_face, plain, switch, room1, pole}
use Rattle.drawing.specs.Conditions.{OuterKnown, Rings, Labelling, Cut}
use Rattle.drawing.proofs.Twins.{twin_into}
use Rattle.drawing.proofs.Faces.{corner_twin, corner_face_lem, corner_into}
use Rattle.drawing.proofs.Total.{room1-none}
use Rattle.drawing.proofs.Labels.{labelled}
use Rattle.drawing.proofs.Cuts.{cut_of}
use Rattle.words.specs.Tables.{nth}
use Rattle.chart.specs.Held.{number, Keyed}

-- ---- classes

module _ {g : Drawing} {here : List ℕ} (K : Keyed g here) where
  pub key_δ : (c d : ℕ) → c < darts g → d < darts g → δ (nth here c) (nth here d) ≡ δ (corner_face g c) (corner_face g d)
  key_δ c d l m = elim (ℕ_discrete (corner_face g c) (corner_face g d)) [
    | yes e ↦ δ-eq (nth here c) (nth here d) ((K.same c d l m).0 e) ∙ sym (δ-eq (corner_face g c) (corner_face g d) e)
    | no e ↦ δ_other (nth here c) (nth here d) (λ q. e ((K.same c d l m).1 q)) ∙ sym (δ_other (corner_face g c) (corner_face g d) e)
  ]

  pub key_class : (w : ℕ → ℕ) (d : ℕ) → d < darts g → class (darts g) (nth here) w (nth here d) ≡ class (darts g) (corner_face g) w (corner_face g d)
  unfolding class
  key_class w d m =
      sum_cong (darts g) (λ c. δ (nth here c) (nth here d) * w c) (λ c. δ (corner_face g c) (corner_face g d) * w c)
      (λ c l. ap (λ (x : ℕ). x * w c) (key_δ c d l m))

module _ (g : Drawing) (even : darts g % 2 ≡ 0) (R : Rings g) where
  -- every face has a corner
  pub at_face : (P : ℕ → Type 0) → ((c : ℕ) → c < darts g → P (corner_face g c)) → (f : ℕ) → f < darts g → face g f ≡ f → P f
  at_face P h f l e = subst P (corner_twin g even R f l ∙ e) (h (twin f) (twin_into (darts g) even f l))

-- ---- the key of a face

-- the key of the face that holds the dart f
abbrev pub key_of : List ℕ → ℕ → ℕ
key_of here f = nth here (twin f)

module _ {g : Drawing} {here : List ℕ} (even : darts g % 2 ≡ 0) (R : Rings g) (K : Keyed g here) where
  pub key_into : Into (darts g) (faces g) (key_of here)
  key_into f l = K.inside (twin f) (twin_into (darts g) even f l)

  -- the key of a corner is that of its face
  pub key_corner : (c : ℕ) → c < darts g → key_of here (corner_face g c) ≡ nth here c
  key_corner c l =
      let i : corner_face g c < darts g = corner_into g even R c l in
      (K.same (twin (corner_face g c)) c (twin_into (darts g) even (corner_face g c) i) l).0 (corner_twin g even R (corner_face g c) i ∙ corner_face_lem g even R c l)

  key_apart : (f h : ℕ) → f < darts g → h < darts g → key_of here f ≡ key_of here h → face g f ≡ face g h
  key_apart f h l m q =
      sym (corner_twin g even R f l) ∙ (K.same (twin f) (twin h) (twin_into (darts g) even f l) (twin_into (darts g) even h m)).1 q ∙ corner_twin g even R h m

  abbrev names : ℕ → ℕ
  names f = δ (face g f) f

  -- no key is that of two faces
  one : (κ : ℕ) → class (darts g) (key_of here) names κ ≤ 1
  unfolding class
  one κ = elim (any? (darts g) (λ f. (key_of here f ≡ κ) × (face g f ≡ f)) (λ f. ℕ_discrete (key_of here f) κ ×? ℕ_discrete (face g f) f)) [
    | yes t ↦ omega (arith, sum_mono (darts g) (λ f. δ (key_of here f) κ * names f) (δ t.0) (below t.0 t.1 t.2), sum-δ (darts g) t.0 t.1)
    | no none ↦ omega (arith, class-zero (darts g) (key_of here) names κ (λ f l e. δ_other (face g f) f (λ q. none (f, l, (e, q)))))
  ]
    where
      below : (h : ℕ) → h < darts g → (key_of here h ≡ κ) × (face g h ≡ h) → (f : ℕ) → f < darts g → δ (key_of here f) κ * names f ≤ δ h f
      below h m p f l = elim (ℕ_discrete h f) [
        | yes e ↦ rw (δ-eq h f e) (omega (arith, δ-le (key_of here f) κ, δ-le (face g f) f, small (δ (key_of here f) κ) (names f) (δ-le (key_of here f) κ) (δ-le (face g f) f)))
        | no d ↦ elim (ℕ_discrete (key_of here f) κ) [
          | yes q ↦ rw (δ_other (face g f) f (λ e. d (sym (sym e ∙ key_apart f h l m (q ∙ sym p.0) ∙ p.1)))) (omega (arith, mul-zero (δ (key_of here f) κ)))
          | no q ↦ rw (δ_other (key_of here f) κ q) (omega (arith, zero-mul (names f)))
        ]
      ]
        where
          small : (a b : ℕ) → a ≤ 1 → b ≤ 1 → a * b ≤ 1
          small a b p q = elim (ℕ_discrete a 0) [
            | yes e ↦ rw (e, zero-mul b) (omega arith)
            | no e ↦ let o : a ≡ 1 = omega arith in rw (o, one-mul b) q
          ]

  -- as many faces as keys: every key is a face's
  all_keys : (κ : ℕ) → κ < faces g → class (darts g) (key_of here) names κ ≡ 1
  unfolding faces
  all_keys =
      sum_tight (faces g) (class (darts g) (key_of here) names) (λ κ. 1) (λ κ l. one κ)
      (class_total (darts g) (faces g) (key_of here) names key_into ∙ sym (mul-one (faces g)) ∙ sym (sum_const (faces g) 1))

  pub key_face : (κ : ℕ) → κ < faces g → (f : ℕ) × (f < darts g) × ((key_of here f ≡ κ) × (face g f ≡ f))
  key_face κ l =
      let t = class_some (darts g) (key_of here) names κ (omega (arith, all_keys κ l)) in
      (t.0, t.1, (t.2.0, δ_some (face g t.0) t.0 t.2.1))

  pub key_met : (κ : ℕ) → κ < faces g → (c : ℕ) × (c < darts g) × (nth here c ≡ κ)
  key_met κ l = let t = key_face κ l in (twin t.0, twin_into (darts g) even t.0 t.1, t.2.0)

  -- what holds at the key of every corner holds at every key
  pub at_key : (P : ℕ → Type 0) → ((c : ℕ) → c < darts g → P (nth here c)) → (κ : ℕ) → κ < faces g → P κ
  at_key P h κ l = let t = key_met κ l in subst P t.2 (h t.0 t.1)

  pub keys_sum : (h : ℕ → ℕ) → sum (faces g) h ≡ sum (darts g) (λ f. δ (face g f) f * h (key_of here f))
  keys_sum h =
      sum_cong (faces g) h (λ κ. h κ * class (darts g) (key_of here) names κ) (λ κ l. sym (mul-one (h κ)) ∙ ap (λ (x : ℕ). h κ * x) (sym (all_keys κ l)))
      ∙ spread (darts g) (faces g) (key_of here) names h key_into

  -- the room of each face, and one more, by key and by face
  pub rooms_sum : OuterKnown g → (room : ℕ → ℕ) → ((c : ℕ) → c < darts g → room (nth here c) + 1 ≡ room1 g (corner_face g c)) → sum (faces g) room + faces g ≡ sum (darts g) (room1 g)
  rooms_sum out room each =
      omega (arith, sum-add (faces g) room (λ κ. 1), sum_const (faces g) 1)
      ∙ keys_sum (λ κ. room κ + 1)
      ∙ sum_cong (darts g) (λ f. δ (face g f) f * (room (key_of here f) + 1)) (room1 g) (λ f l. elim (ℕ_discrete (face g f) f) [
        | yes e ↦ rw (δ-eq (face g f) f e) (one-mul (room (key_of here f) + 1) ∙ each (twin f) (twin_into (darts g) even f l) ∙ ap (room1 g) (corner_twin g even R f l ∙ e))
        | no d ↦ rw (δ_other (face g f) f d) (zero-mul (room (key_of here f) + 1) ∙ sym (room1-none g even R out f d))
      ])

  -- a set S of sources and sinks is a cut if it is larger than the room of any keys t that hold all its corners
  pub keyed_cut : (S t room : ℕ → ℕ) (l : List ℕ)
      → ((c : ℕ) → c < darts g → S (event g c) ≤ t (nth here c))
      → ((c : ℕ) → c < darts g → room (nth here c) + 1 ≡ room1 g (corner_face g c))
      → sum (faces g) (λ κ. t κ * room κ) < sum g.events S
      → Ascending l
      → All (λ v. (v < g.events) × T (pole g v)) l
      → length l ≡ sum g.events S
      → All (λ v. S v ≡ 1) l
      → Cut g l
  keyed_cut S t room l touch rooms over =
      cut_of g S (λ f. t (key_of here f)) (λ f. δ (face g f) f * room (key_of here f)) l
      (λ c k. omega (arith, touch c k, ap t (key_corner c k)))
      (λ f k e. omega (arith, rooms (twin f) (twin_into (darts g) even f k), ap (room1 g) (corner_twin g even R f k ∙ e), ap (λ (x : ℕ). x * room (key_of here f)) (δ-eq (face g f) f e), one-mul (room (key_of here f))))
      (omega (arith, over, keys_sum (λ κ. t κ * room κ), sum_cong (darts g) (λ f. δ (face g f) f * (t (key_of here f) * room (key_of here f))) (λ f. t (key_of here f) * (δ (face g f) f * room (key_of here f))) (λ f k. swap (δ (face g f) f) (t (key_of here f)) (room (key_of here f)))))
    where
      swap : (a b c : ℕ) → a * (b * c) ≡ b * (a * c)
      swap a b c = omega arith

  -- large switch corners, one at each source and sink and none elsewhere, at each key as many as its room: a labelling
  pub keyed_labelling : OuterKnown g → (large : ℕ → ℕ) (l : List ℕ)
      → ((c : ℕ) → c < darts g → large c ≤ switch g c)
      → ((v : ℕ) → v < g.events → class (darts g) (event g) large v ≡ bit (pole g v))
      → ((c : ℕ) → c < darts g → class (darts g) (nth here) large (nth here c) + 1 ≡ room1 g (corner_face g c))
      → length l ≡ darts g
      → ((c : ℕ) → c < darts g → get_or l c 0 ≡ 2 * large c + plain g c)
      → Labelling g l
  keyed_labelling out large l le ends full size has =
      labelled g even R out large l le ends
      (at_face g even R (λ f. class (darts g) (corner_face g) large f + 1 ≡ room1 g f) (λ c k. omega (arith, key_class K large c k, full c k)))
      size has

-- ---- keys as the faces are numbered

pub number_few : (g : Drawing) (f : ℕ) → number g f ≤ f
number_few g f = omega (arith, sum_mono f (λ i. δ (face g i) i) (λ i. 1) (λ i l. δ-le (face g i) i), sum_const f 1)

-- there are no more faces than darts
pub faces_few : (g : Drawing) → faces g ≤ darts g
unfolding faces
faces_few g = number_few g (darts g)

-- a face has a higher number than the faces below it
pub number_less : (g : Drawing) (f h : ℕ) → face g f ≡ f → f < h → number g f < number g h
number_less g f h e l = omega (arith, sum_prefix f h (λ i. δ (face g i) i) l, δ-eq (face g f) f e)

number_inj : (g : Drawing) (f h : ℕ) → face g f ≡ f → face g h ≡ h → number g f ≡ number g h → f ≡ h
number_inj g f h e d q = elim (ℕ_discrete f h) [
  | yes r ↦ r
  | no r ↦ elim (dec_lt f h) [
    | yes l ↦ absurd (omega (arith, number_less g f h e l))
    | no l ↦ absurd (omega (arith, number_less g h f d (omega arith)))
  ]
]

pub numbered : {g : Drawing} {here : List ℕ} → darts g % 2 ≡ 0 → Rings g → length here ≡ darts g → ((c : ℕ) → c < darts g → nth here c ≡ number g (corner_face g c)) → Keyed g here
unfolding faces
numbered {g} {here} even R size each = record {
  size = size;
  inside = λ c l. omega (arith, each c l, number_less g (corner_face g c) (darts g) (corner_face_lem g even R c l) (corner_into g even R c l));
  same = λ c d l m. (
    λ q. each c l ∙ ap (number g) q ∙ sym (each d m),
    λ q. number_inj g (corner_face g c) (corner_face g d) (corner_face_lem g even R c l) (corner_face_lem g even R d m) (sym (each c l) ∙ q ∙ each d m),
  );
}
