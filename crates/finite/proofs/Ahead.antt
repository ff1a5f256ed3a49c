-- How far a walk is from its end: the measure of a loop that goes round. Assumes nothing.
--   ahead m p d x    the steps of p from x to d, m at most
use mathlib.Core.Path.{◌≡◌, refl, sym, ap, ◌∙◌}
use mathlib.Core.Logic.{◌≢◌}
use Prim.Native.Nat.{ℕ, zero, suc, ◌+◌, ◌*◌, ◌-◌, ◌<◌, ◌≤◌}
use native.Mathlib.Nat.{not-suc-le-zero}
use native.Mathlib.Omega.{arith}
use Rattle.finite.specs.Sums.{δ}
use Rattle.finite.specs.Steps.{iter, Reach, Inj, Into}
use Rattle.finite.proofs.Sum.{δ-eq, δ_other}
use Rattle.finite.proofs.Orbit.{iter-add, iter_first, cycle, returns}

unfoldable pub ahead : ℕ → (ℕ → ℕ) → ℕ → ℕ → ℕ
ahead zero p d x = 0
ahead (suc m) p d x = (1 - δ x d) * suc (ahead m p d (p x))

module _ (p : ℕ → ℕ) (d : ℕ) where
  -- a longer look sees no more
  enough : (j m x : ℕ) → j ≤ m → iter p j x ≡ d → ahead m p d x ≡ ahead j p d x
  unfolding iter ahead
  enough zero zero x l q = refl
  enough zero (suc m) x l q = rw (δ-eq x d q) (omega arith)
  enough (suc j) zero x l q = absurd (not-suc-le-zero l)
  enough (suc j) (suc m) x l q =
      ap (λ (y : ℕ). (1 - δ x d) * suc y) (enough j m (p x) (omega arith) (sym (iter_first p j x) ∙ q))

  falls : (n j x : ℕ) → j ≤ n → iter p j x ≡ d → x ≢ d → ahead n p d (p x) < ahead n p d x
  unfolding iter ahead
  falls n zero x l q o = absurd (o q)
  falls zero (suc j) x l q o = absurd (not-suc-le-zero l)
  falls (suc n) (suc j) x l q o =
      let r : iter p j (p x) ≡ d = sym (iter_first p j x) ∙ q in
      rw (δ_other x d o) (omega (arith, enough j n (p x) (omega arith) r, enough j (suc n) (p x) (omega arith) r))

  -- a walk that leaves d and is back after t steps, n at most, is at c; its next step does not end it, and brings d nearer
  pub nearer : (n t c : ℕ) → 0 < t → t ≤ n → iter p t d ≡ d → Reach p d c → p c ≢ d → ahead n p d (p (p c)) < ahead n p d (p c)
  unfolding iter
  nearer n t c pos few back r o =
      let m = cycle p d t pos back r.0 in
      let h : m.0 < t = m.1 in
      let split : t - suc m.0 + suc m.0 ≡ t = omega arith in
      falls n (t - suc m.0) (p c) (omega arith)
      (ap (λ (x : ℕ). iter p (t - suc m.0) (p x)) (sym r.1 ∙ m.2) ∙ sym (iter-add p (t - suc m.0) (suc m.0) d) ∙ ap (λ (x : ℕ). iter p x d) split ∙ back)
      o

-- the same along an injective map
pub orbit_nearer : (n : ℕ) (p : ℕ → ℕ) (d c : ℕ) → Inj n p → Into n n p → d < n → Reach p d c → p c ≢ d
    → ahead n p d (p (p c)) < ahead n p d (p c)
orbit_nearer n p d c inj into l r o = let t = returns n p inj into d l in nearer p d n t.0 c t.1 t.2 t.3 r o
