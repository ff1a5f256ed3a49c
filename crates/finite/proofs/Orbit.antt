-- Orbits of an injective map of the numbers below n into themselves. Assumes nothing.
use mathlib.Core.Path.{◌≡◌, refl, sym, ap, ◌∙◌}
use mathlib.Core.Logic.{◌≢◌, ◌↔◌, ◌⊎◌, inl, inr}
use Prim.Native.Nat.{ℕ, zero, suc, ◌+◌, ◌-◌, ◌<◌, ◌≤◌}
use native.Mathlib.Nat.{suc-add, zero-add, le_antisymm}
use native.Mathlib.Decide.{ℕ_discrete, dec_le, dec_lt}
use native.Mathlib.Omega.{arith}
use Rattle.finite.specs.Steps.{iter, Reach, least, lowest, Inj, Into}
use Rattle.finite.proofs.Decide.{◌×?◌}
use Rattle.finite.proofs.Perm.{pigeon}

pub iter-add : (p : ℕ → ℕ) (j k d : ℕ) → iter p (j + k) d ≡ iter p j (iter p k d)
unfolding iter
iter-add p zero k d = rw zero-add
iter-add p (suc j) k d = rw suc-add (ap p (iter-add p j k d))

-- a step may be taken first or last
pub iter_first : (p : ℕ → ℕ) (k d : ℕ) → iter p (suc k) d ≡ iter p k (p d)
unfolding iter
iter_first p zero d = refl
iter_first p (suc k) d = ap p (iter_first p k d)

pub least-le : (n : ℕ) (f : ℕ → ℕ) (k : ℕ) → k ≤ n → least n f ≤ f k
unfolding least
least-le zero f k l = let e : k ≡ 0 = omega arith in omega (arith, ap f e)
least-le (suc n) f k l =
    elim (ℕ_discrete k (suc n)) [ yes e ↦ omega (arith, ap f e) | no d ↦ omega (arith, least-le n f k (omega arith)) ]

pub least_met : (n : ℕ) (f : ℕ → ℕ) → (k : ℕ) × (k ≤ n) × (least n f ≡ f k)
unfolding least
least_met zero f = (0, omega arith, refl)
least_met (suc n) f =
    let t = least_met n f in
    elim (dec_le (least n f) (f (suc n))) [
      | yes l ↦ (t.0, (let h : t.0 ≤ n = t.1 in omega arith), (let h : least n f ≡ f t.0 = t.2 in omega arith))
      | no l ↦ (suc n, omega arith, omega arith)
    ]

-- whatever a returning walk meets, it meets before its return
pub cycle : (p : ℕ → ℕ) (d t : ℕ) → 0 < t → iter p t d ≡ d → (k : ℕ) → (j : ℕ) × (j < t) × (iter p k d ≡ iter p j d)
unfolding iter
cycle p d t pos back zero = (0, pos, refl)
cycle p d t pos back (suc k) =
    let r = cycle p d t pos back k in
    elim (ℕ_discrete (suc r.0) t) [
      | yes e ↦ (0, pos, ap p r.2 ∙ ap (λ (x : ℕ). iter p x d) e ∙ back)
      | no e ↦ (suc r.0, omega arith, ap p r.2)
    ]

-- what no two numbers share, the lower one first
pub apart_inj : (m : ℕ) (f : ℕ → ℕ) → ((i j : ℕ) → i < j → j < m → f i ≢ f j) → Inj m f
apart_inj m f apart i j a b q =
    elim (dec_lt i j) [
      | yes l ↦ absurd (apart i j l b q)
      | no l ↦ elim (dec_lt j i) [ yes l' ↦ absurd (apart j i l' a (sym q)) | no l' ↦ omega arith ]
    ]

-- up to its first return a walk meets nothing twice
pub fresh_inj : (p : ℕ → ℕ) (d m : ℕ) → iter p m d ≡ d → ((j : ℕ) → 0 < j → j < m → iter p j d ≢ d) → Inj m (λ k. iter p k d)
fresh_inj p d m back fresh = apart_inj m (λ k. iter p k d) (λ i j l h q.
    let split : m - j + j ≡ m = omega arith in
    fresh (m - j + i) (omega arith) (omega arith)
    (iter-add p (m - j) i d ∙ ap (iter p (m - j)) q ∙ sym (iter-add p (m - j) j d) ∙ ap (λ (x : ℕ). iter p x d) split ∙ back))

pub reach_trans : (p : ℕ → ℕ) (a b c : ℕ) → Reach p a b → Reach p b c → Reach p a c
reach_trans p a b c s t = (t.0 + s.0, iter-add p t.0 s.0 a ∙ ap (iter p t.0) s.1 ∙ t.1)

pub lowest_reached : (n : ℕ) (p : ℕ → ℕ) (d : ℕ) → Reach p d (lowest n p d)
unfolding lowest
lowest_reached n p d = let t = least_met n (λ k. iter p k d) in (t.0, sym t.2)

-- the first number below n with P, or none
pub first : (n : ℕ) (P : ℕ → Type 0) → ((i : ℕ) → Dec (P i))
    → ((i : ℕ) × (i < n) × P i × ((j : ℕ) → j < i → P j → ⊥)) ⊎ ((i : ℕ) → i < n → P i → ⊥)
first zero P dec = inr (λ i l q. omega arith)
first (suc n) P dec = go (first n P dec) (dec n)
  where
    go : ((i : ℕ) × (i < n) × P i × ((j : ℕ) → j < i → P j → ⊥)) ⊎ ((i : ℕ) → i < n → P i → ⊥) → Dec (P n)
        → ((i : ℕ) × (i < suc n) × P i × ((j : ℕ) → j < i → P j → ⊥)) ⊎ ((i : ℕ) → i < suc n → P i → ⊥)
    go (inl t) d = inl (t.0, (let h : t.0 < n = t.1 in omega arith), t.2, t.3)
    go (inr none) (yes q) = inl (n, omega arith, q, none)
    go (inr none) (no q) = inr (λ i l p. elim (ℕ_discrete i n) [ yes e ↦ q (rw e at p) | no d ↦ none i (omega arith) p ])

pub iter_into : (n : ℕ) (p : ℕ → ℕ) → Into n n p → (k d : ℕ) → d < n → iter p k d < n
unfolding iter
iter_into n p into zero d l = l
iter_into n p into (suc k) d l = into (iter p k d) (iter_into n p into k d l)

module _ (n : ℕ) (p : ℕ → ℕ) (inj : Inj n p) (into : Into n n p) where
  pub iter_inj : (k d e : ℕ) → d < n → e < n → iter p k d ≡ iter p k e → d ≡ e
  unfolding iter
  iter_inj zero d e l m q = q
  iter_inj (suc k) d e l m q = iter_inj k d e l m (inj (iter p k d) (iter p k e) (iter_into n p into k d l) (iter_into n p into k e m) q)

  -- a walk that has not returned has met nothing twice
  pub open_inj : (d m : ℕ) → d < n → ((j : ℕ) → 0 < j → j < m → iter p j d ≢ d) → Inj m (λ k. iter p k d)
  open_inj d m l none = apart_inj m (λ k. iter p k d) (λ i j a b q.
      let split : i + (j - i) ≡ j = omega arith in
      none (j - i) (omega arith) (omega arith) (sym (iter_inj i d (iter p (j - i) d) l (iter_into n p into (j - i) d l)
      (q ∙ ap (λ (x : ℕ). iter p x d) (sym split) ∙ iter-add p i (j - i) d))))

  -- every number returns to itself, within n steps
  pub returns : (d : ℕ) → d < n → (k : ℕ) × (0 < k) × (k ≤ n) × (iter p k d ≡ d)
  returns d l =
      let t = pigeon (suc n) n (λ k. iter p k d) (λ k h. iter_into n p into k d l) (omega arith) in
      let j : ℕ = t.0 in
      let i : ℕ = t.2.0 in
      let jn : j < suc n = t.1 in
      let ij : i < j = t.2.1 in
      let split : i + (j - i) ≡ j = omega arith in
      let q : iter p i d ≡ iter p i (iter p (j - i) d) = t.2.2 ∙ ap (λ (x : ℕ). iter p x d) (sym split) ∙ iter-add p i (j - i) d in
      (j - i, omega arith, omega arith, iter_inj i (iter p (j - i) d) d (iter_into n p into (j - i) d l) l (sym q))

  -- so what is reached at all is reached within n steps
  pub soon : (d : ℕ) → d < n → (k : ℕ) → (j : ℕ) × (j ≤ n) × (iter p k d ≡ iter p j d)
  soon d l k =
      let t = returns d l in
      let r = cycle p d t.0 t.1 t.3 k in
      (r.0, (let h : r.0 < t.0 = r.1 in let g : t.0 ≤ n = t.2 in omega arith), r.2)

  pub reach_sym : (d e : ℕ) → d < n → Reach p d e → Reach p e d
  unfolding iter
  reach_sym d e l s = back s.0 e s.1
    where
      -- one step back
      one : (x : ℕ) → x < n → Reach p (p x) x
      one x k =
          let t = returns x k in
          let pos : 0 < t.0 = t.1 in
          let split : t.0 - 1 + 1 ≡ t.0 = omega arith in
          (t.0 - 1, sym (iter-add p (t.0 - 1) 1 x) ∙ ap (λ (y : ℕ). iter p y x) split ∙ t.3)

      back : (k e : ℕ) → iter p k d ≡ e → Reach p e d
      back zero e q = (0, sym q)
      back (suc k) e q =
          reach_trans p e (iter p k d) d (rw q at (one (iter p k d) (iter_into n p into k d l))) (back k (iter p k d) refl)

  pub reach_into : (d e : ℕ) → d < n → Reach p d e → e < n
  reach_into d e l s = rw s.1 at (iter_into n p into s.0 d l)

  pub lowest-le : (d : ℕ) → d < n → (k : ℕ) → lowest n p d ≤ iter p k d
  unfolding lowest
  lowest-le d l k = let r = soon d l k in omega (arith, least-le n (λ k. iter p k d) r.0 r.1, r.2)

  pub lowest_mono : (d e : ℕ) → d < n → Reach p d e → lowest n p d ≤ lowest n p e
  lowest_mono d e l s =
      let r = reach_trans p d e (lowest n p e) s (lowest_reached n p e) in
      omega (arith, lowest-le d l r.0, r.1)

  -- two numbers have one lowest exactly when one is reached from the other
  pub lowest_same : (d e : ℕ) → d < n → e < n → Reach p d e ↔ (lowest n p d ≡ lowest n p e)
  lowest_same d e l m = (
    λ s. le_antisymm (lowest_mono d e l s) (lowest_mono e d m (reach_sym d e l s)),
    λ q. reach_trans p d (lowest n p d) e (lowest_reached n p d) (rw (← q) at (reach_sym e (lowest n p e) m (lowest_reached n p e))),
  )

  pub lowest_step : (d : ℕ) → d < n → lowest n p (p d) ≡ lowest n p d
  unfolding iter
  lowest_step d l = sym ((lowest_same d (p d) l (into d l)).0 (1, refl))

  -- the first return: until then nothing is met twice
  pub round : (d : ℕ) → d < n → (m : ℕ) × (0 < m) × (iter p m d ≡ d) × Inj m (λ k. iter p k d)
  round d l = go (first (suc n) Back (λ k. dec_lt 0 k ×? ℕ_discrete (iter p k d) d))
    where
      Back : ℕ → Type 0
      Back k = (0 < k) × (iter p k d ≡ d)

      go : ((m : ℕ) × (m < suc n) × Back m × ((k : ℕ) → k < m → Back k → ⊥)) ⊎ ((k : ℕ) → k < suc n → Back k → ⊥)
          → (m : ℕ) × (0 < m) × (iter p m d ≡ d) × Inj m (λ k. iter p k d)
      go (inl t) = (t.0, t.2.0, t.2.1, fresh_inj p d t.0 t.2.1 (λ j a b q. t.3 j b (a, q)))
      go (inr none) = let t = returns d l in absurd (none t.0 (let h : t.0 ≤ n = t.2 in omega arith) (t.1, t.3))

  pub lowest_into : Into n n (lowest n p)
  lowest_into d l = reach_into d (lowest n p d) l (lowest_reached n p d)

  -- the lowest of an orbit is its own lowest
  pub lowest-lowest : (d : ℕ) → d < n → lowest n p (lowest n p d) ≡ lowest n p d
  lowest-lowest d l = sym ((lowest_same d (lowest n p d) l (lowest_into d l)).0 (lowest_reached n p d))
