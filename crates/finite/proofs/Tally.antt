-- Counting into a table: each number adds its weight at its key, and the table then holds the weights of the classes. Assumes nothing.
use mathlib.Core.Path.{◌≡◌, refl, sym, ap, ◌∙◌}
use mathlib.Core.List.{List}
use Prim.Native.Nat.{ℕ, ◌+◌, ◌*◌, ◌<◌, ◌≤◌}
use native.Mathlib.Nat.{zero-mul, one-mul}
use native.Mathlib.Numerals.{add-one}
use native.Mathlib.Decide.{ℕ_discrete}
use native.Mathlib.Omega.{arith}
use lib.ListN.{length, get_or, set}
use lib.Seq.{get_or-set_same, get_or-set_other}
use Rattle.finite.specs.Sums.{sum, δ, class}
use Rattle.finite.proofs.Sum.{δ_other, δ-eq, sum_mono, sum_const}

module _ (k w : ℕ → ℕ) (v : ℕ) where
  pub class_more : (c : ℕ) → class (c + 1) k w v ≡ class c k w v + δ (k c) v * w c
  unfolding class sum
  class_more c = rw add-one refl

  pub class_few : ((i : ℕ) → w i ≤ 1) → (c : ℕ) → class c k w v ≤ c
  unfolding class
  class_few light c = omega (arith, sum_mono c (λ i. δ (k i) v * w i) (λ i. 1) (λ i l. each i), sum_const c 1)
    where
      each : (i : ℕ) → δ (k i) v * w i ≤ 1
      each i = elim (ℕ_discrete (k i) v) [
        | yes e ↦ rw (δ-eq (k i) v e) (omega (arith, light i))
        | no d ↦ rw (δ_other (k i) v d) (omega arith)
      ]

-- the table t holds the weights of the numbers below c; with w c added at k c it holds those of the numbers below c + 1
pub tally_more : (k w : ℕ → ℕ) (c x : ℕ) (t : List ℕ) → k c < length t → x ≡ get_or t (k c) 0 + w c
    → ((v : ℕ) → v < length t → get_or t v 0 ≡ class c k w v) → (v : ℕ) → v < length t → get_or (set t (k c) x) v 0 ≡ class (c + 1) k w v
tally_more k w c x t l e all v h =
    elim (ℕ_discrete v (k c)) [
      | yes q ↦
          ap (λ (u : ℕ). get_or (set t (k c) x) u 0) q ∙ get_or-set_same t (k c) x 0 l ∙ e
          ∙ omega (arith, ap (λ (u : ℕ). get_or t u 0) q, all v h, class_more k w v c, ap (λ (u : ℕ). u * w c) (δ-eq (k c) v (sym q)), one-mul (w c))
      | no q ↦
          get_or-set_other t (k c) v x 0 q
          ∙ omega (arith, all v h, class_more k w v c, ap (λ (u : ℕ). u * w c) (δ_other (k c) v (λ r. q (sym r))), zero-mul (w c))
    ]
