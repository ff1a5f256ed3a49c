-- Laws of sums and of the indicator δ: congruence, order, addition, exchange, one-point sums, tight sums, a sum changed at one place. Assumes nothing.
use mathlib.Core.Path.{◌≡◌, refl, sym, ap, ap₂, ◌∙◌}
use mathlib.Core.Bool.{Bool, true, false}
use mathlib.Core.Logic.{◌≢◌}
use Prim.Native.Nat.{ℕ, zero, suc, ◌+◌, ◌*◌, ◌<◌, ◌≤◌}
use native.Mathlib.Nat.{mul-one, zero-mul}
use native.Mathlib.Decide.{ℕ_discrete}
use native.Mathlib.Omega.{arith}
use lib.Dec.{T, eqb, eqb→eq, eqb_refl}
use Rattle.finite.specs.Sums.{bit, sum, count, δ, below}
use lib.ListN.{length, length-append}
use mathlib.Core.List.{[], ◌∷◌}
use mathlib.Core.Bool.{cond}

pub sum_cong : (n : ℕ) (f g : ℕ → ℕ) → ((i : ℕ) → i < n → f i ≡ g i) → sum n f ≡ sum n g
unfolding sum
sum_cong zero f g h = refl
sum_cong (suc n) f g h = ap₂ ◌+◌ (sum_cong n f g (λ i l. h i (omega arith))) (h n (omega arith))

pub sum_mono : (n : ℕ) (f g : ℕ → ℕ) → ((i : ℕ) → i < n → f i ≤ g i) → sum n f ≤ sum n g
unfolding sum
sum_mono zero f g h = omega arith
sum_mono (suc n) f g h = omega (arith, sum_mono n f g (λ i l. h i (omega arith)), h n (omega arith))

pub sum-add : (n : ℕ) (f g : ℕ → ℕ) → sum n (λ i. f i + g i) ≡ sum n f + sum n g
unfolding sum
sum-add zero f g = refl
sum-add (suc n) f g = omega (arith, sum-add n f g)

pub sum-mul : (n k : ℕ) (f : ℕ → ℕ) → sum n (λ i. k * f i) ≡ k * sum n f
unfolding sum
sum-mul zero k f = omega arith
sum-mul (suc n) k f = omega (arith, sum-mul n k f)

pub sum_const : (n k : ℕ) → sum n (λ i. k) ≡ n * k
unfolding sum
sum_const zero k = omega arith
sum_const (suc n) k = omega (arith, sum_const n k)

-- twice the sum of the numbers below n, and n more
pub sum-numbers : (n : ℕ) → 2 * sum n (λ i. i) + n ≡ n * n
unfolding sum
sum-numbers zero = omega arith
sum-numbers (suc n) = omega (arith, sum-numbers n)

pub sum-zero : (n : ℕ) (f : ℕ → ℕ) → ((i : ℕ) → i < n → f i ≡ 0) → sum n f ≡ 0
sum-zero n f h = omega (arith, sum_cong n f (λ i. 0) h, sum_const n 0)

pub sum_swap : (n m : ℕ) (f : ℕ → ℕ → ℕ) → sum n (λ i. sum m (λ j. f i j)) ≡ sum m (λ j. sum n (λ i. f i j))
unfolding sum
sum_swap zero m f = sym (sum-zero m (λ j. 0) (λ i l. refl))
sum_swap (suc n) m f = omega (arith, sum_swap n m f, sum-add m (λ j. sum n (λ i. f i j)) (λ j. f n j))

-- a term is at most the sum
pub sum_term : (n : ℕ) (f : ℕ → ℕ) (i : ℕ) → i < n → f i ≤ sum n f
unfolding sum
sum_term zero f i l = omega arith
sum_term (suc n) f i l = elim (ℕ_discrete i n) [ yes e ↦ omega (arith, ap f e) | no d ↦ omega (arith, sum_term n f i (omega arith)) ]

-- so are two terms together
pub sum_two : (n : ℕ) (f : ℕ → ℕ) (i j : ℕ) → i < n → j < n → i ≢ j → f i + f j ≤ sum n f
unfolding sum
sum_two zero f i j k l d = omega arith
sum_two (suc n) f i j k l d =
    elim (ℕ_discrete i n) [
      | yes e ↦ omega (arith, ap f e, sum_term n f j (omega arith))
      | no a ↦ elim (ℕ_discrete j n) [
        | yes e ↦ omega (arith, ap f e, sum_term n f i (omega arith))
        | no b ↦ omega (arith, sum_two n f i j (omega arith) (omega arith) d)
      ]
    ]

-- where one sum is below another term by term and they are equal, the terms are equal
pub sum_tight : (n : ℕ) (f g : ℕ → ℕ) → ((i : ℕ) → i < n → f i ≤ g i) → sum n f ≡ sum n g → (i : ℕ) → i < n → f i ≡ g i
unfolding sum
sum_tight zero f g h e i l = omega arith
sum_tight (suc n) f g h e i l =
    let below : (j : ℕ) → j < n → f j ≤ g j = λ j k. h j (omega arith) in
    let last : f n ≤ g n = h n (omega arith) in
    let rest : sum n f ≤ sum n g = sum_mono n f g below in
    elim (ℕ_discrete i n) [ yes q ↦ omega (arith, ap f q, ap g q) | no d ↦ sum_tight n f g below (omega arith) i (omega arith) ]

-- ---- the indicator of equality
pub δ_same : (a : ℕ) → δ a a ≡ 1
unfolding δ
δ_same a = go (eqb a a) (eqb_refl a)
  where
    go : (b : Bool) → T b → bit b ≡ 1
    go true t = refl
    go false t = absurd t

pub δ_other : (a b : ℕ) → a ≢ b → δ a b ≡ 0
unfolding δ
δ_other a b d = go (eqb a b) (λ t. d (eqb→eq a b t))
  where
    go : (c : Bool) → (T c → ⊥) → bit c ≡ 0
    go true t = absurd (t tt)
    go false t = refl

pub δ-eq : (a b : ℕ) → a ≡ b → δ a b ≡ 1
δ-eq a b e = ap (λ (x : ℕ). δ a x) (sym e) ∙ δ_same a

pub δ-le : (a b : ℕ) → δ a b ≤ 1
δ-le a b = go (ℕ_discrete a b)
  where
    go : Dec (a ≡ b) → δ a b ≤ 1
    go (yes e) = omega (arith, δ-eq a b e)
    go (no d) = omega (arith, δ_other a b d)

pub sum_pick : (n : ℕ) (f : ℕ → ℕ) (e : ℕ) → e < n → sum n (λ i. δ e i * f i) ≡ f e
unfolding sum
sum_pick zero f e l = omega arith
sum_pick (suc n) f e l =
    elim (ℕ_discrete e n) [
      | yes q ↦
          let z : sum n (λ i. δ e i * f i) ≡ 0 = sum-zero n (λ i. δ e i * f i) (λ i k. rw (δ_other e i (omega arith)) (zero-mul (f i))) in
          rw (δ-eq e n q, z) (omega (arith, ap f q))
      | no d ↦ rw (δ_other e n d) (omega (arith, sum_pick n f e (omega arith)))
    ]

pub sum-δ : (n e : ℕ) → e < n → sum n (δ e) ≡ 1
sum-δ n e l = sum_cong n (δ e) (λ i. δ e i * 1) (λ i k. sym (mul-one (δ e i))) ∙ sum_pick n (λ i. 1) e l

-- two functions that differ at v only
pub sum_change : (n : ℕ) (f g : ℕ → ℕ) (v : ℕ) → v < n → ((i : ℕ) → i < n → i ≢ v → f i ≡ g i) → sum n f + g v ≡ sum n g + f v
unfolding sum
sum_change zero f g v l h = omega arith
sum_change (suc n) f g v l h =
    elim (ℕ_discrete n v) [
      | yes e ↦
          let s : sum n f ≡ sum n g = sum_cong n f g (λ i k. h i (omega arith) (omega arith)) in
          omega (arith, ap f e, ap g e)
      | no d ↦ omega (arith, h n (omega arith) d, sum_change n f g v (omega arith) (λ i k. h i (omega arith)))
    ]

-- a shorter sum
pub sum_prefix : (m n : ℕ) (f : ℕ → ℕ) → m < n → sum m f + f m ≤ sum n f
unfolding sum
sum_prefix m zero f l = omega arith
sum_prefix m (suc n) f l =
    elim (ℕ_discrete m n) [ yes e ↦ omega (arith, ap f e, ap (λ (x : ℕ). sum x f) e) | no d ↦ omega (arith, sum_prefix m n f (omega arith)) ]

-- the numbers listed are as many as counted
pub below_length : (n : ℕ) (p : ℕ → Bool) → length (below n p) ≡ count n p
unfolding below sum
below_length zero p = refl
below_length (suc n) p = length-append (below n p) (cond (p n) (n ∷ []) []) ∙ ap₂ ◌+◌ (below_length n p) (go (p n))
  where
    go : (b : Bool) → length (cond b (n ∷ []) []) ≡ bit b
    go true = refl
    go false = refl
