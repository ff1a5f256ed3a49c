-- The laws of the walk from dart to dart: a dart is the lowest of its face exactly if its face is not painted yet. Assumes nothing.
--   Counted g d count here spare   the faces below d are painted, and count of them there are
use mathlib.Core.Path.{◌≡◌, refl, sym, ap, ◌∙◌}
use mathlib.Core.Bool.{Bool, true, false}
use mathlib.Core.List.{List}
use Prim.Native.Nat.{ℕ, ◌+◌, ◌%◌, ◌<◌, ◌≤◌}
use native.Mathlib.Decide.{ℕ_discrete, dec_lt}
use native.Mathlib.Numerals.{add-one}
use native.Mathlib.Omega.{arith}
use lib.ListN.{length, set, length-set, replicate, length-replicate, get_or-replicate}
use lib.Seq.{get_or-set_same, get_or-set_other}
use Rattle.std.specs.Int.{from_bool}
use Rattle.finite.specs.Sums.{sum, δ}
use Rattle.finite.specs.Says.{Says}
use Rattle.finite.specs.Steps.{iter}
use Rattle.finite.proofs.Sum.{δ-eq, δ_other}
use Rattle.finite.proofs.Tally.{class_few}
use Rattle.finite.proofs.Orbit.{lowest-le}
use Rattle.drawing.specs.Drawing.{Drawing, darts, twin, walk, face, faces, corner_face, switch, switches}
use Rattle.drawing.specs.Conditions.{Rings}
use Rattle.drawing.proofs.Twins.{twin_into}
use Rattle.drawing.proofs.Faces.{walk_into, walk_inj, corner_twin, corner_face_lem, corner_into}
use Rattle.rules.specs.Chart.{drawing}
use Rattle.rules.proofs.Bytes.{darts_even}
use Rattle.chart.specs.Shape.{Shape}
use Rattle.chart.specs.Held.{number, Keyed, Switched}
use Rattle.chart.proofs.Keys.{number_few, number_less, numbered}
use Rattle.words.specs.Tables.{nth}
use Rattle.faces.specs.Walked.{Below, Looked, Paintable, Painted}

-- ---- one dart

module _ {s : List ℕ} {n d x : ℕ} {here spare : List ℕ} (S : Shape s n) (A : Looked (drawing s) d x here spare) where
  abbrev g : Drawing
  g = drawing s

  abbrev even : darts g % 2 ≡ 0
  even = darts_even s

  pub far : twin d < length here
  far = omega (arith, twin_into (darts g) even d A.dart, A.below.size)

  face-le : face g d ≤ d
  unfolding face iter
  face-le = lowest-le (darts g) (walk g) (walk_inj g even A.rings) (walk_into g even A.rings) d A.dart 0

  corner : corner_face g (twin d) ≡ face g d
  corner = corner_twin g even A.rings d A.dart

  module _ (t y : ℕ) (twins : t ≡ twin d) (got : y ≡ nth here t) where
    read : y ≡ nth here (twin d)
    read = got ∙ ap (nth here) twins

    pub pass : y < 65535 → Below g (d + 1) here spare × (face g d ≡ d → ⊥)
    pass q = (
      record {
        size = A.below.size;
        done = λ c h t. elim (ℕ_discrete (corner_face g c) d) [
          | yes e ↦ absurd (omega (arith, lower, ap (face g) e, corner_face_lem g even A.rings c h))
          | no e ↦ A.below.done c h (omega arith)
        ];
        left = λ c h t. A.below.left c h (omega arith);
        counts = λ c h t. elim (ℕ_discrete (corner_face g c) d) [
          | yes e ↦ absurd (omega (arith, lower, ap (face g) e, corner_face_lem g even A.rings c h))
          | no e ↦ A.below.counts c h (omega arith)
        ];
      },
      λ e. omega (arith, lower),
    )
      where
        lower : face g d < d
        lower = elim (dec_lt (face g d) d) [
          | yes l ↦ l
          | no l ↦ absurd (omega (arith, A.below.left (twin d) (twin_into (darts g) even d A.dart) (omega (arith, corner)), read))
        ]

    module _ (fresh : 65535 ≤ y) where
      name : face g d ≡ d
      name = elim (dec_lt (face g d) d) [
        | yes l ↦ absurd (omega (arith, corner, A.below.done (twin d) (twin_into (darts g) even d A.dart) (omega (arith, corner)), number_few g (corner_face g (twin d)), face-le, A.dart, S.darts, S.few, read))
        | no l ↦ omega (arith, face-le)
      ]

      pub paintable : Paintable (drawing s) d x here
      paintable = record {
        rings = A.rings;
        size = A.below.size;
        dart = A.dart;
        name = name;
        small = omega (arith, A.key, number_few g d, A.dart, S.darts, S.few);
      }

      pub few : switches g d < 65536
      unfolding switches
      few = omega (arith, class_few (corner_face g) (switch g) d (λ i. omega arith) (darts g), S.darts, S.few)

      -- the key of a face below d is another
      other_key : (new : List ℕ) → Painted g d x here new → (c : ℕ) → c < darts g → corner_face g c < d → (nth new c ≡ nth here c) × (nth new c < x)
      other_key new P c h l =
          let e : nth new c ≡ nth here c = P.others c h (omega arith) in
          (e, omega (arith, A.below.done c h l, A.key, number_less g (corner_face g c) d (corner_face_lem g even A.rings c h) l))

      pub add : (new : List ℕ) → Painted g d x here new → (y : ℕ) (spare' : List ℕ) → y ≡ switches g d → spare' ≡ set spare x y → Below g (d + 1) new spare' × (face g d ≡ d)
      add new P y spare' count noted = (
        record {
          size = P.size ∙ A.below.size;
          done = λ c h t. elim (ℕ_discrete (corner_face g c) d) [
            | yes e ↦ P.inside c h e ∙ A.key ∙ ap (number g) (sym e)
            | no e ↦ P.others c h e ∙ A.below.done c h (omega arith)
          ];
          left = λ c h t. P.others c h (omega arith) ∙ A.below.left c h (omega arith);
          counts = λ c h t i. rw noted (elim (ℕ_discrete (corner_face g c) d) [
            | yes e ↦ rw (P.inside c h e, e) (get_or-set_same spare x y 0 (omega (arith, P.inside c h e, ap length noted, length-set spare x y)) ∙ count)
            | no e ↦
                let k = other_key new P c h (omega arith) in
                get_or-set_other spare x (nth new c) y 0 (omega (arith, k.1))
                ∙ ap (nth spare) k.0
                ∙ A.below.counts c h (omega arith) (omega (arith, k.0, ap length noted, length-set spare x y))
          ]);
        },
        name,
      )

-- ---- all darts

-- a dart that is the lowest of its face adds a face
adds : (a b : ℕ) (r : Bool) (y : ℕ) → Says r (a ≡ b) → y ≡ from_bool r → y ≡ δ a b
adds a b true y e q = q ∙ sym (δ-eq a b e)
adds a b false y d q = q ∙ sym (δ_other a b d)

pub record Counted (g : Drawing) (d count : ℕ) (here spare : List ℕ) : Type 0 where
  pub within : d ≤ darts g
  pub number : count ≡ number g d
  pub below : Below g d here spare

pub none : (g : Drawing) (m : ℕ) (here spare : List ℕ) → m ≡ darts g → here ≡ replicate m 65535 → Counted g 0 0 here spare
unfolding sum
none g m here spare e q = record {
  within = omega arith;
  number = refl;
  below = record {
    size = ap length q ∙ length-replicate m 65535 ∙ e;
    done = λ c h t. absurd (omega arith);
    left = λ c h t. ap (λ (l : List ℕ). nth l c) q ∙ get_or-replicate {A = ℕ} m c 65535 0 (omega arith);
    counts = λ c h t. absurd (omega arith);
  };
}

module _ (g : Drawing) (d count : ℕ) (here spare : List ℕ) (C : Counted g d count here spare) where
  pub count_few : count ≤ d
  count_few = omega (arith, C.number, number_few g d)

  pub one_more : d < darts g → (painted : Bool) (r : ℕ) (new spare' : List ℕ) → Below g (d + 1) new spare' × Says painted (face g d ≡ d) → r ≡ from_bool painted → Counted g (d + 1) (count + r) new spare'
  unfolding sum
  one_more l painted r new spare' B q = record { within = omega arith; number = rw (add-one d) (omega (arith, C.number, adds (face g d) d painted r B.1 q)); below = B.0 }

pub all : (s : List ℕ) (n d count : ℕ) (here spare : List ℕ) → Shape s n → Rings (drawing s) → Counted (drawing s) d count here spare → n ≤ d
    → Keyed (drawing s) here × (count ≡ faces (drawing s)) × Switched (drawing s) here spare
unfolding faces
all s n d count here spare S R C l =
    let g = drawing s in
    let e : d ≡ darts g = omega (arith, C.within, S.darts) in (
      numbered (darts_even s) R C.below.size (λ c h. C.below.done c h (omega (arith, corner_into g (darts_even s) R c h))),
      C.number ∙ ap (number g) e,
      record { each = λ c h. C.below.counts c h (omega (arith, corner_into g (darts_even s) R c h)) },
    )
