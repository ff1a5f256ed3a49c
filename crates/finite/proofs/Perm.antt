-- Injective maps of the numbers below n: each number is met exactly once, so a sum may be taken along the map. Pigeonhole. Assumes nothing.
use mathlib.Core.Path.{◌≡◌, sym, ◌∙◌}
use Prim.Native.Nat.{ℕ, zero, suc, ◌*◌, ◌<◌, ◌≤◌}
use native.Mathlib.Nat.{mul-one, mul_comm}
use native.Mathlib.Decide.{ℕ_discrete, dec_lt}
use native.Mathlib.Omega.{arith}
use Rattle.finite.specs.Sums.{sum, δ}
use Rattle.finite.specs.Steps.{Into, Inj}
use Rattle.finite.proofs.Decide.{any?}
use Rattle.finite.proofs.Sum.{sum_term, sum_two, sum_cong, sum_mono, sum-mul, sum_const, sum-zero, sum_swap, sum_tight, sum_pick, δ_same, δ_other, δ-eq, δ-le}

-- how many numbers below n are taken to e
abbrev pub fibre : ℕ → (ℕ → ℕ) → ℕ → ℕ
fibre n p e = sum n (λ d. δ (p d) e)

pub fibre_le : (n : ℕ) (p : ℕ → ℕ) → Inj n p → (e : ℕ) → fibre n p e ≤ 1
unfolding sum
fibre_le zero p inj e = omega arith
fibre_le (suc n) p inj e =
    elim (ℕ_discrete (p n) e) [
      | yes q ↦
          let z : fibre n p e ≡ 0 =
          sum-zero n (λ d. δ (p d) e) (λ d l. δ_other (p d) e (λ r. let same : d ≡ n = inj d n (omega arith) (omega arith) (r ∙ sym q) in omega arith)) in
          omega (arith, δ-le (p n) e)
      | no q ↦ omega (arith, δ_other (p n) e q, fibre_le n p (λ i j k l. inj i j (omega arith) (omega arith)) e)
    ]

pub fibre_total : (n m : ℕ) (p : ℕ → ℕ) → Into n m p → sum m (fibre n p) ≡ n
fibre_total n m p into =
    let one : (d : ℕ) → d < n → sum m (λ e. δ (p d) e) ≡ 1 =
    λ d l. sum_cong m (λ e. δ (p d) e) (λ e. δ (p d) e * 1) (λ e k. sym (mul-one (δ (p d) e))) ∙ sum_pick m (λ e. 1) (p d) (into d l) in
    omega (arith, sum_swap m n (λ e d. δ (p d) e), sum_cong n (λ d. sum m (λ e. δ (p d) e)) (λ d. 1) one, sum_const n 1)

-- pigeonhole, as a bound: an injective map goes only into as many
pub inj_le : (n m : ℕ) (p : ℕ → ℕ) → Inj n p → Into n m p → n ≤ m
inj_le n m p inj into = omega (arith, fibre_total n m p into, sum_mono m (fibre n p) (λ e. 1) (λ e l. fibre_le n p inj e), sum_const m 1)

pub fibre_one : (n : ℕ) (p : ℕ → ℕ) → Inj n p → Into n n p → (e : ℕ) → e < n → fibre n p e ≡ 1
fibre_one n p inj into =
    sum_tight n (fibre n p) (λ e. 1) (λ e l. fibre_le n p inj e) (omega (arith, fibre_total n n p into, sum_const n 1))

-- a sum taken along an injective map of the numbers below n into themselves
pub reindex : (n : ℕ) (p : ℕ → ℕ) → Inj n p → Into n n p → (f : ℕ → ℕ) → sum n (λ d. f (p d)) ≡ sum n f
reindex n p inj into f =
    sum_cong n (λ d. f (p d)) (λ d. sum n (λ e. δ (p d) e * f e)) (λ d l. sym (sum_pick n f (p d) (into d l)))
    ∙ sum_swap n n (λ d e. δ (p d) e * f e)
    ∙ sum_cong n (λ e. sum n (λ d. δ (p d) e * f e)) f (λ e l.
    sum_cong n (λ d. δ (p d) e * f e) (λ d. f e * δ (p d) e) (λ d k. mul_comm (δ (p d) e) (f e))
    ∙ sum-mul n (f e) (λ d. δ (p d) e)
    ∙ rw (fibre_one n p inj into e l) (mul-one (f e)))

-- an injective map of the numbers below n into themselves meets each
pub onto : (n : ℕ) (p : ℕ → ℕ) → Inj n p → Into n n p → (e : ℕ) → e < n → (d : ℕ) × (d < n) × (p d ≡ e)
onto n p inj into e l =
    elim (any? n (λ d. p d ≡ e) (λ d. ℕ_discrete (p d) e)) [
      | yes t ↦ t
      | no none ↦
          let z : fibre n p e ≡ 0 = sum-zero n (λ d. δ (p d) e) (λ d k. δ_other (p d) e (λ q. none (d, k, q))) in
          absurd (omega (arith, fibre_one n p inj into e l))
    ]

-- a map of the numbers below n into themselves that meets each is injective
pub onto_inj : (n : ℕ) (p : ℕ → ℕ) → Into n n p → ((e : ℕ) → e < n → (d : ℕ) × (d < n) × (p d ≡ e)) → Inj n p
onto_inj n p into met i j k l q =
    elim (ℕ_discrete i j) [
      | yes e ↦ e
      | no d ↦ absurd (omega (arith, one (p i) (into i k), sum_two n (λ d. δ (p d) (p i)) i j k l d, δ_same (p i), δ-eq (p j) (p i) (sym q)))
    ]
  where
    some : (e : ℕ) → e < n → 1 ≤ fibre n p e
    some e h = let t = met e h in omega (arith, sum_term n (λ d. δ (p d) e) t.0 t.1, δ-eq (p t.0) e t.2)

    one : (e : ℕ) → e < n → 1 ≡ fibre n p e
    one = sum_tight n (λ e. 1) (fibre n p) some (omega (arith, fibre_total n n p into, sum_const n 1))

-- pigeonhole: of more numbers than there are places two go to one place
pub pigeon : (n m : ℕ) (p : ℕ → ℕ) → Into n m p → m < n → (j : ℕ) × (j < n) × ((i : ℕ) × (i < j) × (p i ≡ p j))
pigeon n m p into l =
    elim (any? n (λ j. (i : ℕ) × (i < j) × (p i ≡ p j)) (λ j. any? j (λ i. p i ≡ p j) (λ i. ℕ_discrete (p i) (p j)))) [
      | yes t ↦ t
      | no none ↦ absurd (omega (arith, inj_le n m p (λ i j k h e. apart none i j k h e (ℕ_discrete i j)) into))
    ]
  where
    apart : (((j : ℕ) × (j < n) × ((i : ℕ) × (i < j) × (p i ≡ p j))) → ⊥) → (i j : ℕ) → i < n → j < n → p i ≡ p j → Dec (i ≡ j) → i ≡ j
    apart none i j k h e (yes q) = q
    apart none i j k h e (no q) = less (dec_lt i j)
      where
        less : Dec (i < j) → i ≡ j
        less (yes s) = absurd (none (j, h, (i, s, e)))
        less (no s) = absurd (none (i, k, (j, omega arith, sym e)))
