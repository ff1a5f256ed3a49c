-- The worklist's end: either every event is on it, and its order climbs; or each event left has an arrow from one left. Assumes nothing.
use mathlib.Core.Path.{◌≡◌, sym, ◌∙◌}
use mathlib.Core.Logic.{◌≢◌}
use mathlib.Core.List.{List}
use Prim.Native.Nat.{ℕ, ◌+◌, ◌*◌, ◌%◌, ◌<◌, ◌≤◌}
use native.Mathlib.Decide.{ℕ_discrete, dec_lt}
use native.Mathlib.Omega.{arith}
use Rattle.finite.specs.Steps.{Into}
use Rattle.finite.proofs.Sum.{sum_const}
use Rattle.finite.proofs.Perm.{onto}
use Rattle.drawing.specs.Drawing.{Drawing, darts, tail, head}
use Rattle.drawing.specs.Conditions.{EventsKnown, NoCircle}
use Rattle.drawing.proofs.Climb.{climbs_none}
use Rattle.words.specs.Tables.{nth}
use Rattle.climb.specs.Peel.{between, Peeled}
use Rattle.climb.specs.Back.{Kept}
use Rattle.finite.proofs.Along.{along_missed}
use Rattle.climb.proofs.Peels.{between_arrow, comers-between, waiting_few}

module _ (g : Drawing) (known : EventsKnown g) (left list : List ℕ) (t : ℕ) (P : Peeled g left list t t) where
  inside : Into t g.events (nth list)
  inside i l = omega (arith, P.waiting.inside i l, P.size)

  -- the place of an event on the list, where all are on it
  place : g.events ≤ t → (v : ℕ) → v < g.events → (i : ℕ) × (i < t) × (nth list i ≡ v)
  place all v l =
      let q : t ≡ g.events = omega (arith, waiting_few left list t P.waiting, P.size) in
      onto t (nth list) P.waiting.once (λ i h. rw (← q) at (inside i h)) v (omega arith)

  rank : g.events ≤ t → (v : ℕ) → Dec (v < g.events) → ℕ
  rank all v (yes l) = (place all v l).0
  rank all v (no l) = 0

  ranked : (all : g.events ≤ t) (u v : ℕ) (d : Dec (u < g.events)) (e : Dec (v < g.events)) → u < g.events → v < g.events
      → ((i : ℕ) → i < t → nth list i ≡ v → (j : ℕ) × (j < i) × (nth list j ≡ u)) → rank all u d < rank all v e
  unfolding rank
  ranked all u v (no d) e k l up = absurd (d k)
  ranked all u v (yes d) (no e) k l up = absurd (e l)
  ranked all u v (yes d) (yes e) k l up =
      let x = place all u d in
      let y = place all v e in
      let z = up y.0 y.1 y.2 in
      let b : y.0 < t = y.1 in
      let c : z.0 < y.0 = z.1 in
      let same : x.0 ≡ z.0 = P.waiting.once x.0 z.0 x.1 (omega arith) (x.2 ∙ sym z.2) in
      omega arith

  pub peeled_none : g.events ≤ t → NoCircle g
  peeled_none all =
      climbs_none g (λ v. rank all v (dec_lt v g.events)) (λ a l.
      ranked all (tail g a) (head g a) (dec_lt (tail g a) g.events) (dec_lt (head g a) g.events) (known (2 * a) (omega arith)) (known (2 * a + 1) (omega arith))
      (λ i h q. P.order i a h l (sym q)))

  -- an event that is not on the list has arrows left
  unlisted : (v : ℕ) → v < g.events → ((i : ℕ) → i < t → nth list i ≢ v) → 0 < nth left v
  unlisted v l none = elim (ℕ_discrete (nth left v) 0) [
    | yes z ↦ let f = P.waiting.found v (omega (arith, P.size)) z in absurd (none f.0 f.1 f.2)
    | no z ↦ omega arith
  ]

  pub peeled_kept : darts g % 2 ≡ 0 → t < g.events → Kept g left
  peeled_kept even less = record {
    size = P.size;
    some =
        let m = along_missed t g.events (nth list) (λ v. 1) inside P.waiting.once (omega (arith, sum_const t 1, sum_const g.events 1)) in
        (m.0, m.1, unlisted m.0 m.1 m.3);
    each = λ v l pos.
        let m =
        along_missed t g.events (nth list) (λ u. between g u v) inside P.waiting.once
        (omega (arith, P.counts v l, comers-between g known v)) in
        let a = between_arrow g m.0 v even m.2 in
        (a.0, a.1, (a.2.1, rw a.2.0 (unlisted m.0 m.1 m.3)));
  }
