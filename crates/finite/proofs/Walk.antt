-- A walk along an injective map, up to its return. Assumes nothing.
use mathlib.Core.Path.{◌≡◌, refl, sym, ap, ◌∙◌}
use mathlib.Core.Logic.{◌≢◌}
use Prim.Native.Nat.{ℕ, suc, ◌+◌, ◌<◌, ◌≤◌}
use native.Mathlib.Decide.{ℕ_discrete, dec_lt}
use native.Mathlib.Omega.{arith}
use native.Mathlib.Numerals.{add-one}
use Rattle.finite.specs.Steps.{iter, Reach, Inj, Into}
use Rattle.finite.proofs.Orbit.{cycle, iter_into, returns}

-- c is reached from d in k steps, with no return on the way
pub record Walk (p : ℕ → ℕ) (d k c : ℕ) : Type 0 where
  pub here : c ≡ iter p k d
  pub fresh : (j : ℕ) → 0 < j → j ≤ k → iter p j d ≢ d

pub walk_start : (p : ℕ → ℕ) (d : ℕ) → Walk p d 0 d
unfolding iter
walk_start p d = record { here = refl; fresh = λ j a b. absurd (omega arith) }

pub walk_step : (p : ℕ → ℕ) (d k c : ℕ) → Walk p d k c → p c ≢ d → Walk p d (k + 1) (p c)
unfolding iter
walk_step p d k c W q = record {
  here = rw add-one (ap p W.here);
  fresh = λ j a b. elim (ℕ_discrete j (k + 1)) [
    | yes e ↦ λ z. q (ap p W.here ∙ ap (λ (x : ℕ). iter p x d) (sym (add-one k)) ∙ ap (λ (x : ℕ). iter p x d) (sym e) ∙ z)
    | no e ↦ W.fresh j a (omega arith)
  ];
}

pub walk_few : (n : ℕ) (p : ℕ → ℕ) (d k c : ℕ) → Inj n p → Into n n p → d < n → Walk p d k c → k < n
walk_few n p d k c inj into l W =
    let t = returns n p inj into d l in
    let a : 0 < t.0 = t.1 in
    let b : t.0 ≤ n = t.2 in
    elim (dec_lt k t.0) [ yes q ↦ omega arith | no q ↦ absurd (W.fresh t.0 a (omega arith) t.3) ]

pub walk_into : (n : ℕ) (p : ℕ → ℕ) (d k c : ℕ) → Inj n p → Into n n p → d < n → Walk p d k c → c < n
walk_into n p d k c inj into l W = rw W.here (iter_into n p into k d l)

-- whatever is reached was met
pub walk-all : (p : ℕ → ℕ) (d k c : ℕ) → Walk p d k c → p c ≡ d → (e : ℕ) → Reach p d e → (j : ℕ) × (j ≤ k) × (iter p j d ≡ e)
unfolding iter
walk-all p d k c W q e r =
    let m = cycle p d (suc k) (omega arith) (sym (ap p W.here) ∙ q) r.0 in
    let h : m.0 < suc k = m.1 in
    (m.0, omega arith, sym m.2 ∙ r.1)
