-- The counts decide whether the labels are a labelling. Assumes nothing.
use mathlib.Core.Path.{◌≡◌, sym, ap, ◌∙◌}
use mathlib.Core.Logic.{⊎_elim}
use mathlib.Core.Bool.{Bool, true, false}
use mathlib.Core.List.{List}
use Prim.Native.Nat.{ℕ, ◌+◌, ◌*◌, ◌%◌, ◌<◌, ◌≤◌}
use native.Mathlib.Decide.{ℕ_discrete}
use native.Mathlib.Omega.{arith}
use lib.ListN.{length}
use lib.Seq.{ext_get_or}
use Rattle.finite.proofs.Sum.{δ-eq, δ_other}
use Rattle.drawing.specs.Drawing.{Drawing, darts, corner_face, plain, switch}
use Rattle.drawing.specs.Conditions.{OuterKnown, Rings, label, larges, Labelling}
use Rattle.drawing.proofs.Faces.{corner_into, corner_face_lem}
use Rattle.drawing.proofs.Labels.{large-room}
use Rattle.words.specs.Tables.{nth}
use Rattle.finite.specs.Says.{Says}
use Rattle.std.proofs.lemmas.Bool.{false≢true}
use Rattle.std.proofs.lemmas.Slice.Eq.{bytes_eq-Decides}
use Rattle.std.specs.Cmp.Lexicographic.{pointwise}
use lib.Dec.{eqb}
use Rattle.chart.specs.Held.{Keyed, Poled, Roomed}
use Rattle.chart.proofs.Keys.{key_class, at_key, keyed_labelling}
use Rattle.labels.specs.Checks.{Suits, large, Counted}

-- a label that suits its corner is 1 at a plain corner, and 2 where it is large
suits_value : (g : Drawing) (l : List ℕ) (c : ℕ) → Suits g l c → (large l c ≤ switch g c) × (label l c ≡ 2 * large l c + plain g c)
suits_value g l c S = elim (ℕ_discrete (plain g c) 1) [
  | yes p ↦
      let e : label l c ≡ 1 = S.plains p in
      let z : large l c ≡ 0 = δ_other (label l c) 2 (omega arith) in
      (omega arith, omega arith)
  | no p ↦
      let s : switch g c ≡ 1 = omega arith in
      ⊎_elim
      (λ e. let z : large l c ≡ 0 = δ_other (label l c) 2 (omega arith) in (omega arith, omega arith))
      (λ e. let z : large l c ≡ 1 = δ-eq (label l c) 2 e in (omega arith, omega arith))
      (S.switches s)
]

-- `==` of two tables says whether they are one
pub says_same : (xs ys : List ℕ) (r : Bool) → r ≡ pointwise eqb xs ys → Says r (xs ≡ ys)
says_same xs ys true e = (bytes_eq-Decides xs ys).0 (sym e)
says_same xs ys false e = λ q. absurd (false≢true (e ∙ (bytes_eq-Decides xs ys).1 q))

module _ {g : Drawing} {n : ℕ} {here poles spare : List ℕ} (few : n ≡ darts g) (even : n % 2 ≡ 0) (R : Rings g) (H : Keyed g here) (P : Poled g poles) (W : Roomed g here spare) (l : List ℕ) (size : length l ≡ n) where
  even' : darts g % 2 ≡ 0
  even' = rw few at even

  pub labels_suit : Labelling g l → (c : ℕ) → c < n → Suits g l c
  labels_suit L c h =
      let k : c < darts g = omega (arith, few) in
      record { plains = L.plains c k; switches = L.switches c k }

  module _ {e f : List ℕ} (K : Counted g here l e f n) where
    pub labels_yes : OuterKnown g → ((c : ℕ) → c < n → Suits g l c) → e ≡ poles → f ≡ spare → Labelling g l
    labels_yes outer suit same-e same-f =
        keyed_labelling even' R H outer (large l) l
        (λ c h. (suits_value g l c (suit c (omega (arith, few)))).0)
        (λ v h.
        let k : v < length e = omega (arith, K.size_e) in
        rw few at (sym (K.by_event v k) ∙ ap (λ (t : List ℕ). nth t v) same-e ∙ P.each v h))
        (λ c h.
        let k : nth here c < length f = omega (arith, H.inside c h, K.size_f) in
        omega (arith, rw few at (K.by_face (nth here c) k), ap (λ (t : List ℕ). nth t (nth here c)) same-f, W.each c h))
        (size ∙ few)
        (λ c h. (suits_value g l c (suit c (omega (arith, few)))).1)

    pub labels_events : Labelling g l → e ≡ poles
    unfolding larges
    labels_events L = ext_get_or 0 e poles (K.size_e ∙ sym P.size) (λ v k.
        let h : v < g.events = omega (arith, K.size_e) in
        rw few at (K.by_event v k) ∙ L.events v h ∙ sym (P.each v h))

    pub labels-faces : Labelling g l → f ≡ spare
    labels-faces L = ext_get_or 0 f spare (K.size_f ∙ sym W.size) (λ x k. at_key even' R H (λ x. nth f x ≡ nth spare x) each x (omega (arith, K.size_f)))
      where
        each : (c : ℕ) → c < darts g → nth f (nth here c) ≡ nth spare (nth here c)
        each c h =
            omega (
              arith,
              rw few at (K.by_face (nth here c) (omega (arith, H.inside c h, K.size_f))),
              key_class H (large l) c h,
              large-room g even' R l L (corner_face g c) (corner_into g even' R c h) (corner_face_lem g even' R c h),
              W.each c h,
            )
