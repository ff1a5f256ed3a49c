-- A sum along a sequence that meets nothing twice, against the sum over all. Assumes nothing.
use mathlib.Core.Path.{◌≡◌, sym, ap, ◌∙◌}
use mathlib.Core.Logic.{◌≢◌}
use Prim.Native.Nat.{ℕ, ◌*◌, ◌<◌, ◌≤◌}
use native.Mathlib.Nat.{mul_comm}
use native.Mathlib.Decide.{ℕ_discrete, dec_lt}
use native.Mathlib.Omega.{arith}
use Rattle.finite.specs.Sums.{sum, δ, class}
use Rattle.finite.specs.Steps.{Into, Inj}
use Rattle.finite.proofs.Decide.{any?, ◌×?◌}
use Rattle.finite.proofs.Sum.{sum_cong, sum_mono, sum-mul, sum_swap, sum_pick, sum-zero, sum_term, sum_tight, δ_other, δ-eq}
use Rattle.finite.proofs.Perm.{fibre, fibre_le}

-- a number that is not met has an empty fibre, one that is met has not
pub fibre_none : (k : ℕ) (x : ℕ → ℕ) (e : ℕ) → ((i : ℕ) → i < k → x i ≢ e) → fibre k x e ≡ 0
fibre_none k x e h = sum-zero k (λ i. δ (x i) e) (λ i l. δ_other (x i) e (h i l))

pub fibre_some : (k : ℕ) (x : ℕ → ℕ) (e i : ℕ) → i < k → x i ≡ e → 0 < fibre k x e
fibre_some k x e i l q = omega (arith, sum_term k (λ i. δ (x i) e) i l, δ-eq (x i) e q)

pub fibre_met : (k : ℕ) (x : ℕ → ℕ) (e : ℕ) → 0 < fibre k x e → (i : ℕ) × (i < k) × (x i ≡ e)
fibre_met k x e pos = elim (any? k (λ i. x i ≡ e) (λ i. ℕ_discrete (x i) e)) [
  | yes t ↦ t
  | no none ↦ absurd (omega (arith, fibre_none k x e (λ i l q. none (i, l, q))))
]

module _ (k n : ℕ) (x f : ℕ → ℕ) (into : Into k n x) where
  -- each number counts as often as it is met
  pub along : sum k (λ i. f (x i)) ≡ sum n (λ e. fibre k x e * f e)
  along =
      sum_cong k (λ i. f (x i)) (λ i. sum n (λ e. δ (x i) e * f e)) (λ i l. sym (sum_pick n f (x i) (into i l)))
      ∙ sum_swap k n (λ i e. δ (x i) e * f e)
      ∙ sum_cong n (λ e. sum k (λ i. δ (x i) e * f e)) (λ e. fibre k x e * f e) (λ e l.
      sum_cong k (λ i. δ (x i) e * f e) (λ i. f e * δ (x i) e) (λ i h. mul_comm (δ (x i) e) (f e)) ∙ sum-mul k (f e) (λ i. δ (x i) e) ∙ mul_comm (f e) (fibre k x e))

  module _ (once : Inj k x) where
    at_most : (e : ℕ) → fibre k x e * f e ≤ f e
    at_most e = elim (ℕ_discrete (fibre k x e) 0) [
      | yes q ↦ rw q (omega arith)
      | no q ↦ let o : fibre k x e ≡ 1 = omega (arith, fibre_le k x once e) in rw o (omega arith)
    ]

    pub along_le : sum k (λ i. f (x i)) ≤ sum n f
    along_le = omega (arith, along, sum_mono n (λ e. fibre k x e * f e) f (λ e l. at_most e))

    -- where the sums are equal, whatever counts is met
    pub along_all : sum k (λ i. f (x i)) ≡ sum n f → (e : ℕ) → e < n → 0 < f e → (i : ℕ) × (i < k) × (x i ≡ e)
    along_all q e l pos = elim (ℕ_discrete (fibre k x e) 0) [
      | yes z ↦ absurd (omega (arith, rw z at (sum_tight n (λ e. fibre k x e * f e) f (λ e l. at_most e) (sym along ∙ q) e l)))
      | no z ↦ fibre_met k x e (omega arith)
    ]

    -- where they are not, something that counts is not met
    pub along_missed : sum k (λ i. f (x i)) < sum n f → (e : ℕ) × (e < n) × (0 < f e) × ((i : ℕ) → i < k → x i ≢ e)
    along_missed less = elim (any? n (λ e. (0 < f e) × (fibre k x e ≡ 0)) (λ e. dec_lt 0 (f e) ×? ℕ_discrete (fibre k x e) 0)) [
      | yes t ↦ (t.0, t.1, t.2.0, λ i l q. absurd (omega (arith, fibre_some k x t.0 i l q, t.2.1)))
      | no none ↦
          let same : sum n (λ e. fibre k x e * f e) ≡ sum n f =
          sum_cong n (λ e. fibre k x e * f e) f (λ e l. elim (ℕ_discrete (f e) 0) [
            | yes z ↦ rw z (omega arith)
            | no z ↦ elim (ℕ_discrete (fibre k x e) 0) [
              | yes z' ↦ absurd (none (e, l, (omega arith, z')))
              | no z' ↦ let o : fibre k x e ≡ 1 = omega (arith, fibre_le k x once e) in rw o (omega arith)
            ]
          ]) in
          absurd (omega (arith, along))
    ]

-- a sequence that meets each of a class once, and nothing else, sums to the class's weight
pub along_class : (k n : ℕ) (x key w : ℕ → ℕ) (v : ℕ) → Into k n x → Inj k x → ((i : ℕ) → i < k → key (x i) ≡ v)
    → ((e : ℕ) → e < n → key e ≡ v → (i : ℕ) × (i < k) × (x i ≡ e)) → sum k (λ i. w (x i)) ≡ class n key w v
unfolding class
along_class k n x key w v into once of met =
    along k n x w into
    ∙ sum_cong n (λ e. fibre k x e * w e) (λ e. δ (key e) v * w e) (λ e l. ap (λ (y : ℕ). y * w e) (each e l))
  where
    each : (e : ℕ) → e < n → fibre k x e ≡ δ (key e) v
    each e l = elim (ℕ_discrete (key e) v) [
      | yes q ↦ let t = met e l q in omega (arith, fibre_le k x once e, fibre_some k x e t.0 t.1 t.2, δ-eq (key e) v q)
      | no q ↦ fibre_none k x e (λ i h z. q (ap key (sym z) ∙ of i h)) ∙ sym (δ_other (key e) v q)
    ]
