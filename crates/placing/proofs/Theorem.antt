-- Yes or no, as pure mathematics: every drawing past test 13 has a labelling or a cut, and never both. Assumes nothing.
--   labelling_or_cut    a drawing with rings, whose faces have room that totals its sources and sinks, has a labelling or a cut
--   yes_or_no           so has every drawing past the tests 6 to 13
--   not_both            never both
-- The idea: place the sources and sinks one by one. A placement of all fills every face, since the rooms total them; one that has no place is in a
-- crowd that is a cut.
use mathlib.Core.Path.{◌≡◌, refl, ap, ◌∙◌}
use mathlib.Core.Logic.{◌⊎◌, inl, inr, ⊎_elim}
use mathlib.Core.List.{List}
use Prim.Native.Nat.{ℕ, zero, suc, ◌+◌, ◌-◌, ◌*◌, ◌/◌, ◌%◌, ◌≤◌, ◌<◌}
use native.Mathlib.Decide.{ℕ_discrete}
use native.Mathlib.Omega.{arith}
use native.Mathlib.Numerals.{add-one}
use lib.ListN.{length, take, set, length-set}
use Rattle.finite.specs.Sums.{bit, sum, δ, class}
use Rattle.drawing.specs.Drawing.{Drawing, darts, event, twin, face, faces, outer_face, corner_face, plain, switch, switches, room1, pole}
use Rattle.drawing.specs.Conditions.{EventsKnown, OuterKnown, Rings, Planar, NoneMixed, NoCircle, Drawable, Cut}
use Rattle.finite.proofs.Extra.{bit_yes}
use Rattle.finite.proofs.Filled.{table, table_length, table_at}
use Rattle.drawing.proofs.Twins.{twin_into}
use Rattle.drawing.proofs.Faces.{corner_twin, corner_face_lem, corner_into}
use Rattle.drawing.proofs.Total.{room1_total}
use Rattle.drawing.proofs.Positive.{room1_some}
use Rattle.drawing.proofs.Apart.{labelling_no_cut}
use Rattle.words.specs.Tables.{nth}
use Rattle.chart.specs.Held.{number}
use Rattle.chart.proofs.Keys.{key_of, key_δ, key_class, rooms_sum, numbered}
use Rattle.placing.specs.Board.{Board, All, Crowd}
use Rattle.placing.specs.Search.{Listing}
use Rattle.placing.proofs.Pure.{placement_or_crowd}
use Rattle.placing.proofs.Labelled.{is_labelling}
use Rattle.placing.proofs.Writes.{list_none, list_same, list_more, is_cut}

-- the list of a set
listing : (S : ℕ → ℕ) (N : ℕ) → ((v : ℕ) → v < N → S v ≤ 1) → (e : ℕ) → e ≤ N → (list : List ℕ) × (k : ℕ) × (length list ≡ N) × (k ≤ e) × Listing e S list k
listing S N bits zero l = (table N (λ v. 0), 0, table_length N (λ v. 0), omega arith, list_none S (table N (λ v. 0)))
listing S N bits (suc e) l =
    let r = listing S N bits e (omega arith) in
    let few : r.1 ≤ e = r.3 in
    elim (ℕ_discrete (S e) 1) [
      | yes q ↦ (set r.0 r.1 e, r.1 + 1, length-set r.0 r.1 e ∙ r.2, omega arith, rw (add-one e) at (list_more r.4 q (omega (arith, r.2))))
      | no d ↦ (r.0, r.1, r.2, omega arith, rw (add-one e) at (list_same r.4 (omega (arith, bits e (omega arith)))))
    ]

module _ (g : Drawing) (even : darts g % 2 ≡ 0) (rings : Rings g) (known : EventsKnown g) (outer : OuterKnown g) where
  here : List ℕ
  here = table (darts g) (λ c. number g (corner_face g c))

  board : Board g here
  unfolding here
  board = record {
    even = even;
    rings = rings;
    known = known;
    keyed = numbered even rings (table_length (darts g) (λ c. number g (corner_face g c))) (table_at (darts g) (λ c. number g (corner_face g c)));
  }

  -- the room of the face of key f, and one more
  more : ℕ → ℕ
  more f = class (darts g) (nth here) (switch g) f / 2 + 2 * δ (key_of here g.outer) f

  is_more : (c : ℕ) → c < darts g → more (nth here c) ≡ room1 g (corner_face g c)
  unfolding more room1 switches
  is_more c l =
      let o : δ (key_of here g.outer) (nth here c) ≡ δ (outer_face g) (corner_face g c) =
      key_δ board.keyed (twin g.outer) c (twin_into (darts g) even g.outer outer) l ∙ ap (λ (x : ℕ). δ x (corner_face g c)) (corner_twin g even rings g.outer outer) in
      omega (arith, o, key_class board.keyed (switch g) c l)

  module _ (some : (f : ℕ) → f < darts g → face g f ≡ f → 1 ≤ room1 g f) (total : sum (darts g) (room1 g) ≡ sum g.events (λ v. bit (pole g v)) + faces g) where
    room : List ℕ
    room = table (faces g) (λ f. more f - 1)

    at_corner : (c : ℕ) → c < darts g → nth room (nth here c) + 1 ≡ room1 g (corner_face g c)
    unfolding room
    at_corner c l =
        omega (
          arith,
          table_at (faces g) (λ f. more f - 1) (nth here c) (board.keyed.inside c l),
          is_more c l,
          some (corner_face g c) (corner_into g even rings c l) (corner_face_lem g even rings c l),
        )

    all_rooms : sum (faces g) (nth room) ≡ sum g.events (λ v. bit (pole g v))
    all_rooms = omega (arith, rooms_sum even rings board.keyed outer (nth room) at_corner, total)

    pub labelling_or_cut : Drawable g ⊎ ((l : List ℕ) × Cut g l)
    unfolding room
    labelling_or_cut = ⊎_elim
        (λ (x : (L : List ℕ) × All g here (λ v. bit (pole g v)) (nth room) L).
        let label : ℕ → ℕ = λ c. 2 * δ (nth x.0 (event g c)) c + plain g c in
        inl (table (darts g) label, is_labelling board x.1 (λ v l. refl) outer at_corner all_rooms (table (darts g) label) (table_length (darts g) label) (table_at (darts g) label)))
        (λ (x : (S : ℕ → ℕ) × Crowd g here (nth room) S × ((v : ℕ) → v < g.events → S v ≤ 1) × ((v : ℕ) → v < g.events → 1 ≤ S v → bit (pole g v) ≡ 1)).
        let r = listing x.0 g.events x.2 g.events (omega arith) in
        inr (take r.1 r.0, is_cut board x.1 r.4 (omega (arith, r.2, r.3)) at_corner (λ v l m. (bit_yes (pole g v)).1 (x.3 v l m))))
        (placement_or_crowd (λ v. bit (pole g v)) board room (table_length (faces g) (λ f. more f - 1)))

  pub yes_or_no : Planar g → NoneMixed g → NoCircle g → Drawable g ⊎ ((l : List ℕ) × Cut g l)
  yes_or_no planar mixed circle = labelling_or_cut (room1_some g even rings circle) (room1_total g even rings known outer planar mixed)

  pub not_both : Drawable g → ((l : List ℕ) × Cut g l) → ⊥
  not_both y n = labelling_no_cut g even rings y.0 n.0 y.1 n.1
