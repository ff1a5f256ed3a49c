-- Rooms taken out corner by corner: the laws of the loop of `touched_room`. Assumes nothing.
--   start, step     before the first corner, and one corner more
--   corner_in       the key of a corner's face is a key
use mathlib.Core.Path.{◌≡◌, sym, ap, subst, ◌∙◌}
use mathlib.Core.Logic.{◌≢◌, ◌⊎◌, inl, inr}
use mathlib.Core.List.{List}
use Prim.Native.Nat.{ℕ, ◌+◌, ◌<◌}
use native.Mathlib.Decide.{ℕ_discrete}
use native.Mathlib.Omega.{arith}
use lib.ListN.{length, set, length-set}
use lib.Seq.{get_or-set_same, get_or-set_other}
use Rattle.finite.specs.Sums.{sum}
use Rattle.finite.proofs.Sum.{sum_change}
use Rattle.drawing.specs.Drawing.{Drawing, darts, event, faces}
use Rattle.words.specs.Tables.{nth}
use Rattle.cuts.specs.Tables.{Sized}
use Rattle.cuts.specs.Sweep.{Taken, Hit, Swept}

module _ (g : Drawing) (here q : List ℕ) where
  hit_more : (c f : ℕ) → Hit g here q c f → Hit g here q (c + 1) f
  hit_more c f h = (h.0, omega (arith, h.1), h.2)

  -- by an earlier corner, unless by this one
  hit_less : (c f : ℕ) → ((nth q (event g c) ≡ 2) × (nth here c ≡ f) → ⊥) → Hit g here q (c + 1) f → Hit g here q c f
  hit_less c f d h =
      elim (ℕ_discrete h.0 c) [
        | yes e ↦ absurd (d (subst (λ (x : ℕ). (nth q (event g x) ≡ 2) × (nth here x ≡ f)) e h.2))
        | no a ↦ (h.0, omega (arith, h.1), h.2)
      ]

  module _ (s₀ : List ℕ) where
    pub start : length s₀ ≡ faces g → Swept g here q s₀ 0 0 s₀
    start e =
        record {
          size = e;
          small = omega arith;
          out = λ f l h. absurd (omega (arith, h.1));
          kept = λ f l d. omega arith;
          whole = omega arith;
        }

    pub step : (c x r : ℕ) (s s' : List ℕ) → nth here c < faces g → Swept g here q s₀ c x s → Taken g here q s c r s' → Swept g here q s₀ (c + 1) (x + r) s'
    step c x r s s' inside w t = go t.either
      where
        f₀ : ℕ
        f₀ = nth here c

        go : ((nth q (event g c) ≡ 2) × (r ≡ nth s f₀) × (s' ≡ set s f₀ 0)) ⊎ ((nth q (event g c) ≢ 2) × (r ≡ 0) × (s' ≡ s)) → Swept g here q s₀ (c + 1) (x + r) s'
        -- the face of c is hit, and its room is out
        go (inl h) =
            let same : nth s' f₀ ≡ 0 = ap (λ (z : List ℕ). nth z f₀) h.2 ∙ get_or-set_same s f₀ 0 0 (omega (arith, w.size)) in
            let other : (f : ℕ) → f ≢ f₀ → nth s' f ≡ nth s f = λ f d. ap (λ (z : List ℕ). nth z f) h.2 ∙ get_or-set_other s f₀ f 0 0 d in
            record {
              size = ap length h.2 ∙ length-set s f₀ 0 ∙ w.size;
              small = omega (arith, w.small, t.small);
              out =
                  λ f l k.
                  elim (ℕ_discrete f f₀) [
                    | yes e ↦ ap (nth s') e ∙ same
                    | no d ↦ other f d ∙ w.out f l (hit_less c f (λ z. d (sym z.1)) k)
                  ];
              kept = λ f l k. other f (λ e. k (c, omega arith, (h.0, sym e))) ∙ w.kept f l (λ z. k (hit_more c f z));
              whole = omega (arith, w.whole, h.1, sum_change (faces g) (nth s) (nth s') f₀ inside (λ f l d. sym (other f d)));
            }
        -- nothing is hit here
        go (inr h) =
            record {
              size = ap length h.2 ∙ w.size;
              small = omega (arith, w.small, t.small);
              out = λ f l k. ap (λ (z : List ℕ). nth z f) h.2 ∙ w.out f l (hit_less c f (λ z. h.0 z.0) k);
              kept = λ f l k. ap (λ (z : List ℕ). nth z f) h.2 ∙ w.kept f l (λ z. k (hit_more c f z));
              whole = omega (arith, w.whole, h.1, ap (λ (z : List ℕ). sum (faces g) (nth z)) h.2);
            }

module _ {g : Drawing} {here q spare : List ℕ} (z : Sized g here q spare) (c : ℕ) (inside : c < darts g) where
  pub corner_in : nth here c < faces g
  corner_in = z.corners.keyed.inside c inside
