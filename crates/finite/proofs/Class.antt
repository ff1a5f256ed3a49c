-- Sums over classes: a weight summed over each class of a map k, and then over the classes. Assumes nothing.
use mathlib.Core.Path.{◌≡◌, sym, ap, ◌∙◌}
use mathlib.Core.Logic.{◌≢◌, ◌⊎◌, inl, inr}
use Prim.Native.Nat.{ℕ, ◌+◌, ◌*◌, ◌<◌, ◌≤◌}
use mathlib.Core.List.{List}
use lib.ListN.{length, get_or, set}
use lib.Seq.{get_or-set_same, get_or-set_other}
use native.Mathlib.Nat.{mul-add, zero-mul, one-mul, mul-zero, eq-zero-or-pos}
use native.Mathlib.Decide.{ℕ_discrete, dec_lt}
use native.Mathlib.Omega.{arith}
use Rattle.finite.specs.Sums.{sum, δ, class}
use Rattle.finite.specs.Steps.{Into}
use Rattle.finite.proofs.Decide.{any?, ◌×?◌}
use Rattle.finite.proofs.Sum.{sum_mono, sum-add, sum-δ, sum_change, sum_tight, sum_cong, sum-mul, sum_swap, sum_pick, sum_term, sum-zero, δ_same, δ_other}

pub class_total : (n m : ℕ) (k w : ℕ → ℕ) → Into n m k → sum m (class n k w) ≡ sum n w
unfolding class
class_total n m k w into =
    sum_swap m n (λ v c. δ (k c) v * w c)
    ∙ sum_cong n (λ c. sum m (λ v. δ (k c) v * w c)) w (λ c l. sum_pick m (λ v. w c) (k c) (into c l))

pub class_cong : (n : ℕ) (k w w' : ℕ → ℕ) (v : ℕ) → ((c : ℕ) → c < n → k c ≡ v → w c ≡ w' c) → class n k w v ≡ class n k w' v
unfolding class
class_cong n k w w' v h = sum_cong n (λ c. δ (k c) v * w c) (λ c. δ (k c) v * w' c) (λ c l. elim (ℕ_discrete (k c) v) [
  | yes e ↦ ap (λ (x : ℕ). δ (k c) v * x) (h c l e)
  | no d ↦ rw (δ_other (k c) v d) (zero-mul (w c) ∙ sym (zero-mul (w' c)))
])

pub class-zero : (n : ℕ) (k w : ℕ → ℕ) (v : ℕ) → ((c : ℕ) → c < n → k c ≡ v → w c ≡ 0) → class n k w v ≡ 0
unfolding class
class-zero n k w v h = class_cong n k w (λ c. 0) v h ∙ sum-zero n (λ c. δ (k c) v * 0) (λ c l. mul-zero (δ (k c) v))

-- a member's weight is at most the class's
pub class_term : (n : ℕ) (k w : ℕ → ℕ) (c : ℕ) → c < n → w c ≤ class n k w (k c)
unfolding class
class_term n k w c l = omega (arith, sum_term n (λ d. δ (k d) (k c) * w d) c l, one-mul (w c), ap (λ (x : ℕ). x * w c) (δ_same (k c)))

-- a class of some weight has a member of some weight
pub class_some : (n : ℕ) (k w : ℕ → ℕ) (v : ℕ) → 0 < class n k w v → (c : ℕ) × (c < n) × ((k c ≡ v) × (0 < w c))
class_some n k w v pos =
    elim (any? n (λ c. (k c ≡ v) × (0 < w c)) (λ c. ℕ_discrete (k c) v ×? dec_lt 0 (w c))) [
      | yes t ↦ t
      | no none ↦ absurd (omega (arith, class-zero n k w v (λ c l e. zero_of none c l e (eq-zero-or-pos (w c)))))
    ]
  where
    zero_of : (((c : ℕ) × (c < n) × ((k c ≡ v) × (0 < w c))) → ⊥) → (c : ℕ) → c < n → k c ≡ v → (w c ≡ 0) ⊎ (0 < w c) → w c ≡ 0
    zero_of none c l e (inl z) = z
    zero_of none c l e (inr q) = absurd (none (c, l, (e, q)))

pub class-add : (n : ℕ) (k a b : ℕ → ℕ) (v : ℕ) → class n k (λ c. a c + b c) v ≡ class n k a v + class n k b v
unfolding class
class-add n k a b v =
    sum_cong n (λ c. δ (k c) v * (a c + b c)) (λ c. δ (k c) v * a c + δ (k c) v * b c) (λ c l. mul-add (δ (k c) v) (a c) (b c))
    ∙ sum-add n (λ c. δ (k c) v * a c) (λ c. δ (k c) v * b c)

-- a weight t of the classes, times each class's weight
pub spread : (N F : ℕ) (k w t : ℕ → ℕ) → Into N F k → sum F (λ f. t f * class N k w f) ≡ sum N (λ v. w v * t (k v))
unfolding class
spread N F k w t into =
    sum_cong F (λ f. t f * class N k w f) (class N k (λ v. w v * t (k v))) (λ f l. pull f) ∙ class_total N F k (λ v. w v * t (k v)) into
  where
    pull : (f : ℕ) → t f * class N k w f ≡ class N k (λ v. w v * t (k v)) f
    pull f =
        sym (sum-mul N (t f) (λ v. δ (k v) f * w v))
        ∙ sum_cong N (λ v. t f * (δ (k v) f * w v)) (λ v. δ (k v) f * (w v * t (k v))) (λ v l. elim (ℕ_discrete (k v) f) [
          | yes e ↦ rw (← e) (omega arith)
          | no d ↦ rw (δ_other (k v) f d) (omega arith)
        ])

-- w is 1 at the events to place, else 0; chosen is the face of each; S is 1 at the events of the set, and t at the faces that it touches
pub hall : (N F : ℕ) (w chosen room S t : ℕ → ℕ) → Into N F chosen
    → ((f : ℕ) → f < F → class N chosen w f ≡ room f)
    → ((v : ℕ) → v < N → S v ≤ w v * t (chosen v))
    → sum N S ≤ sum F (λ f. t f * room f)
hall N F w chosen room S t into full inside =
    omega (
      arith,
      spread N F chosen w t into,
      sum_mono N S (λ v. w v * t (chosen v)) inside,
      sum_cong F (λ f. t f * class N chosen w f) (λ f. t f * room f) (λ f l. ap (λ (x : ℕ). t f * x) (full f l)),
    )

-- S holds v₀, which has no place; each face that S touches is full, and what is placed there is in S
pub cut : (N F : ℕ) (placed chosen room S t : ℕ → ℕ) (v₀ : ℕ) → Into N F chosen → v₀ < N
    → ((f : ℕ) → f < F → t f * class N chosen placed f ≡ t f * room f)
    → ((v : ℕ) → v < N → placed v * t (chosen v) + δ v₀ v ≤ S v)
    → sum F (λ f. t f * room f) < sum N S
cut N F placed chosen room S t v₀ into l full closed =
    omega (
      arith,
      spread N F chosen placed t into,
      sum_mono N (λ v. placed v * t (chosen v) + δ v₀ v) S closed,
      sum-add N (λ v. placed v * t (chosen v)) (δ v₀),
      sum-δ N v₀ l,
      sum_cong F (λ f. t f * class N chosen placed f) (λ f. t f * room f) full,
    )

-- a class's weight after the event v is placed elsewhere
pub class_change : (n : ℕ) (k k' w : ℕ → ℕ) (v f : ℕ) → v < n → ((i : ℕ) → i < n → i ≢ v → k i ≡ k' i)
    → class n k w f + δ (k' v) f * w v ≡ class n k' w f + δ (k v) f * w v
unfolding class
class_change n k k' w v f l h =
    sum_change n (λ c. δ (k c) f * w c) (λ c. δ (k' c) f * w c) v l (λ i j d. ap (λ (x : ℕ). δ x f * w i) (h i j d))

-- the same at a list
pub class-set : (l : List ℕ) (w : ℕ → ℕ) (v x f : ℕ) → v < length l
    → class (length l) (λ i. get_or l i 0) w f + δ x f * w v ≡ class (length l) (λ i. get_or (set l v x) i 0) w f + δ (get_or l v 0) f * w v
class-set l w v x f h =
    rw (get_or-set_same l v x 0 h) at (class_change (length l) (λ i. get_or l i 0) (λ i. get_or (set l v x) i 0) w v f h (λ i k d. sym (get_or-set_other l v i x 0 d)))

-- no face over its room, and as many placed as there is room: each face is full
pub all_full : (N F : ℕ) (chosen w room : ℕ → ℕ) → Into N F chosen → sum N w ≡ sum F room
    → ((f : ℕ) → f < F → class N chosen w f ≤ room f) → (f : ℕ) → f < F → class N chosen w f ≡ room f
all_full N F chosen w room into total fit = sum_tight F (class N chosen w) room fit (class_total N F chosen w into ∙ total)
