-- The lowest mixed event: the first that a search upwards meets. Assumes nothing.
use mathlib.Core.Path.{◌≡◌, sym, ap, ap₂, ◌∙◌}
use mathlib.Core.Bool.{Bool, true, false, cond}
use mathlib.Core.List.{List, [], ◌∷◌, ◌++◌}
use Prim.Native.Nat.{ℕ, zero, suc, ◌<◌, ◌≤◌}
use native.Mathlib.Decide.{ℕ_discrete}
use native.Mathlib.Omega.{arith}
use borrow.Author.Tests.{lt-ltb, le-ltb}
use lib.ListN.{take}
use Rattle.finite.specs.Sums.{below}
use Rattle.finite.proofs.Decide.{nil≢cons}
use Rattle.finite.proofs.Lists.{below_none}
use Rattle.drawing.specs.Drawing.{Drawing, event, changes, mixed, mixed_events}
use Rattle.chart.specs.Held.{Firsts}
use Rattle.climb.specs.Evidence.{LowestMixed}
use Rattle.std.specs.Prelude.{Option, None, Some, MatchOption, length}
use Rattle.std.specs.List.{AllWithin, HoldsAt}

take_kept : (l m : List ℕ) (x : ℕ) → take 1 l ≡ x ∷ [] → take 1 (l ++ m) ≡ x ∷ []
take_kept [] m x q = absurd (nil≢cons q)
take_kept (y ∷ l) m x q = q

-- of the numbers below n that pass the test, none or the first
below_first : (n : ℕ) (p : ℕ → Bool) (v : ℕ) → v < n → p v ≡ true → ((i : ℕ) → i < v → p i ≡ false) → take 1 (below n p) ≡ v ∷ []
unfolding below
below_first zero p v l q h = absurd (omega arith)
below_first (suc n) p v l q h = elim (ℕ_discrete v n) [
  | yes e ↦
      ap (take 1) (ap₂ ◌++◌ (below_none n p (λ i k. h i (omega arith))) (ap (λ (b : Bool). cond b (n ∷ []) []) (ap p (sym e) ∙ q)))
      ∙ ap (λ (x : ℕ). x ∷ []) (sym e)
  | no e ↦ take_kept (below n p) (cond (p n) (n ∷ []) []) v (below_first n p v (omega arith) q h)
]

-- dart d is of a mixed event, or is not
abbrev pub Turns : Drawing → ℕ → Type 0
Turns g d = 2 < changes g (event g d)

abbrev pub Plain : Drawing → ℕ → Type 0
Plain g d = changes g (event g d) ≤ 2

module _ (g : Drawing) (first : List ℕ) (F : Firsts g first) where
  -- the dart that stands at an event is one of it
  plain : (v : ℕ) → v ≤ g.events → AllWithin (Plain g) first 0 v → (u : ℕ) → u < v → changes g u ≤ 2
  plain v l h u k = rw (F.each u (omega arith)) at (h u 0 (omega arith) k)

  -- a search over the darts of the events, in their order
  pub lowest : (r : Option ℕ) → MatchOption r (AllWithin (Plain g) first 0 (length first)) (λ v. (v < length first) × HoldsAt (Turns g) first v × AllWithin (Plain g) first 0 v)
      → LowestMixed g r
  unfolding mixed_events
  lowest None h = λ u l. plain (length first) (omega (arith, F.size)) h u (omega (arith, F.size))
  lowest (Some v) (l, m, h) =
      let k : v < g.events = omega (arith, F.size) in (
        k,
        below_first g.events (mixed g) v k
            (lt-ltb 2 (changes g v) (rw (F.each v k) at (m 0)))
            (λ u j. le-ltb 2 (changes g u) (plain v (omega arith) h u j)),
      )
