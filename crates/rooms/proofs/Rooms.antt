-- Half the switch corners of a face, with four more for the outer face, is its room and one more. Assumes nothing.
use mathlib.Core.Path.{◌≡◌, sym, ap, ◌∙◌}
use mathlib.Core.List.{List}
use Prim.Native.Nat.{ℕ, ◌+◌, ◌*◌, ◌%◌, ◌<◌, ◌≤◌}
use native.Mathlib.Decide.{ℕ_discrete}
use native.Mathlib.Nat.{mul-le-mul_left}
use native.Mathlib.Omega.{arith}
use lib.ListN.{length, set, length-set}
use lib.Seq.{get_or-set_same, get_or-set_other}
use Rattle.finite.specs.Sums.{δ}
use Rattle.finite.proofs.Sum.{δ-eq, δ_other}
use Rattle.finite.proofs.Tally.{class_few}
use Rattle.drawing.specs.Drawing.{Drawing, darts, twin, face, faces, outer_face, corner_face, switch, switches, room1}
use Rattle.drawing.specs.Conditions.{OuterKnown, Rings}
use Rattle.drawing.proofs.Twins.{twin_into}
use Rattle.drawing.proofs.Faces.{corner_twin, corner_face_lem, corner_into}
use Rattle.rules.specs.Chart.{drawing}
use Rattle.rules.proofs.Bytes.{darts_even}
use Rattle.chart.specs.Shape.{Shape}
use Rattle.chart.specs.Held.{Keyed, Switched, Roomed}
use Rattle.chart.proofs.Keys.{key_of, at_key}
use Rattle.words.specs.Tables.{nth}
use Rattle.rooms.specs.Counts.{Halved}

module _ {s : List ℕ} {n : ℕ} {here : List ℕ} (S : Shape s n) (R : Rings (drawing s)) (known : OuterKnown (drawing s)) (K : Keyed (drawing s) here) where
  abbrev g : Drawing
  g = drawing s

  abbrev even : darts g % 2 ≡ 0
  even = darts_even s

  -- the other dart of a dart is one
  pub twin_in : (o t : ℕ) → t ≡ twin o → o < darts g → t < darts g
  twin_in o t twins h = rw twins (twin_into (darts g) even o h)

  module _ (l : List ℕ) (long : length l ≡ faces g) (T : Switched g here l) where
    -- the key f of a corner t has an entry, with room for four more
    pub key_in : (t f : ℕ) → f ≡ nth here t → t < darts g → f < length l
    key_in t f got h = omega (arith, got, K.inside t h, long)

    counts : (c : ℕ) → c < darts g → nth l (nth here c) ≡ switches g (corner_face g c)
    counts c h = T.each c h (omega (arith, K.inside c h, long))

    pub fits : (t f : ℕ) → f ≡ nth here t → t < darts g → nth l f + 4 < 65536
    unfolding switches
    fits t f got h =
        omega (
          arith,
          ap (nth l) got,
          counts t h,
          class_few (corner_face g) (switch g) (corner_face g t) (λ i. omega arith) (darts g),
          S.darts,
          S.few,
        )

    module _ (o t f : ℕ) (outer : o ≡ g.outer) (twins : t ≡ twin o) (got : f ≡ nth here t) where
      is_outer : f ≡ key_of here g.outer
      is_outer = got ∙ ap (nth here) (twins ∙ ap twin outer)

      far : twin g.outer < darts g
      far = twin_into (darts g) even g.outer known

      outer_in : f < length l
      outer_in = key_in t f got (rw (twins, outer) far)

      module _ (more : ℕ) (m : List ℕ) (stored : m ≡ set l f (nth l f + more)) where
        -- a corner has the outer key exactly if it lies in the outer face
        out : corner_face g (twin g.outer) ≡ outer_face g
        out = corner_twin g even R g.outer known

        each : (c : ℕ) → c < darts g → nth m (nth here c) ≡ switches g (corner_face g c) + δ (outer_face g) (corner_face g c) * more
        each c h = elim (ℕ_discrete (nth here c) f) [
          | yes e ↦
              rw (stored, e, get_or-set_same l f (nth l f + more) 0 outer_in, δ-eq (outer_face g) (corner_face g c) (sym out ∙ sym ((K.same c (twin g.outer) h far).1 (e ∙ is_outer))))
              (omega (arith, counts c h, ap (nth l) e))
          | no e ↦
              rw (stored, get_or-set_other l f (nth here c) (nth l f + more) 0 e, δ_other (outer_face g) (corner_face g c) (λ r. e ((K.same c (twin g.outer) h far).0 (sym (out ∙ r)) ∙ sym is_outer)))
              (omega (arith, counts c h))
        ]

        pub size : length m ≡ faces g
        size = ap length stored ∙ length-set l f (nth l f + more) ∙ long

        module _ (positive : (j : ℕ) → j < darts g → face g j ≡ j → 1 ≤ room1 g j) where
          some : (c : ℕ) → c < darts g → 1 ≤ room1 g (corner_face g c)
          some c h = positive (corner_face g c) (corner_into g even R c h) (corner_face_lem g even R c h)

          pub enough : 2 ≤ more → (j : ℕ) → j < length m → 2 ≤ nth m j
          unfolding room1
          enough two j h = at_key even R K (λ j. 2 ≤ nth m j) (λ c k. omega (arith, each c k, some c k, mul-le-mul_left (δ (outer_face g) (corner_face g c)) two)) j (omega (arith, size))

          pub roomed : more ≡ 4 → (m' : List ℕ) → Halved (length m) m m' → Roomed g here m'
          unfolding room1
          roomed four m' H = record {
            size = H.size ∙ size;
            each = λ c h. omega (arith, H.done (nth here c) (omega (arith, K.inside c h, size)), rw four at (each c h), some c h);
          }
