-- Darts stored at their events: each event that has a dart gets one. Assumes nothing.
--   Stored g first d      what stands at an event is a dart of that event or none, and for each dart below d one stands at its event
use mathlib.Core.Path.{◌≡◌, sym, ap, ◌∙◌}
use mathlib.Core.List.{List}
use Prim.Native.Nat.{ℕ, ◌+◌, ◌<◌, ◌≤◌}
use native.Mathlib.Decide.{ℕ_discrete}
use native.Mathlib.Omega.{arith}
use borrow.Author.Count.{below_more}
use lib.ListN.{length, set, replicate, length-set, length-replicate, get_or-replicate}
use lib.Seq.{get_or-set_same, get_or-set_other}
use Rattle.drawing.specs.Drawing.{Drawing, darts, event}
use Rattle.drawing.specs.Conditions.{EventsKnown}
use Rattle.words.specs.Tables.{nth}
use Rattle.chart.specs.Held.{Picked}

pub record Stored (g : Drawing) (first : List ℕ) (d : ℕ) : Type 0 where
  pub size : length first ≡ g.events
  pub own : (v : ℕ) → v < g.events → nth first v < darts g → event g (nth first v) ≡ v
  pub each : (c : ℕ) → c < d → nth first (event g c) < darts g

pub start : (g : Drawing) (first : List ℕ) (m : ℕ) → darts g ≤ 65535 → first ≡ replicate m 65535 → m ≡ g.events → Stored g first 0
start g first m few q e = record {
  size = ap length q ∙ length-replicate m 65535 ∙ e;
  own = λ v l h. absurd (omega (arith, ap (λ (t : List ℕ). nth t v) q ∙ get_or-replicate {A = ℕ} m v 65535 0 (omega arith)));
  each = λ c l. absurd (omega arith);
}

module _ (g : Drawing) (first : List ℕ) (d : ℕ) (S : Stored g first d) where
  pub step : EventsKnown g → d < darts g → (v : ℕ) → v ≡ event g d → Stored g (set first v d) (d + 1)
  step known l v q = record {
    size = length-set first v d ∙ S.size;
    own = λ u k h. elim (ℕ_discrete u v) [
      | yes e ↦ ap (λ (x : ℕ). event g (nth (set first v d) x)) e ∙ ap (event g) here ∙ sym q ∙ sym e
      | no e ↦
          let same = get_or-set_other first v u d 0 e in
          ap (event g) same ∙ S.own u k (omega (arith, same))
    ];
    each = below_more (λ (c : ℕ). nth (set first v d) (event g c) < darts g) d
        (λ c h. elim (ℕ_discrete (event g c) v) [
          | yes e ↦ rw (e, here) l
          | no e ↦ rw (get_or-set_other first v (event g c) d 0 e) (S.each c h)
        ])
        (rw (← q, here) l);
  }
    where
      here : nth (set first v d) v ≡ d
      here = get_or-set_same first v d 0 (omega (arith, S.size, known d l))

  pub done : darts g ≤ d → Picked g first
  done all = record { size = S.size; own = S.own; each = λ c l. S.each c (omega arith) }
