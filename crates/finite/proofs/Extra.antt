-- Laws of tests as bits, of sums over a list and of signed sums. Assumes nothing.
--   bit_yes          a test passes exactly if its bit is 1
--   eqb_same         two equal numbers pass the test of equality
--   eqb_cases        what the test of equality says
--   or_left, or_right  one of two tests passes, so they pass together
--   or-bit           and together they pass no less than the second
--   δ_some           an indicator that is not 0 indicates
--   total f l        the sum of f over the list l
--   total_sum        a sum over a list of sums is a sum of sums over the list
--   total_miss       a sum over a list of numbers above v has nothing at v
--   sumℤ_one         a signed sum over the numbers that pass a test, in the natural numbers: each term with one more
--   pos_cancel       a number taken off on both sides
--   less_one         the signed order in the natural numbers: with a number added on both sides
use mathlib.Core.Path.{◌≡◌, refl, sym, ap, ap₂, ◌∙◌}
use mathlib.Core.Logic.{◌≢◌, ◌↔◌, ◌⊎◌, inl, inr}
use mathlib.Core.Bool.{Bool, true, false, cond, ◌||◌}
use mathlib.Core.List.{List, [], ◌∷◌}
use Prim.Native.Nat.{ℕ, zero, suc, ◌+◌, ◌-◌, ◌*◌, ◌≤◌, ◌<◌}
use native.Mathlib.Nat.{add-zero}
use native.Mathlib.Decide.{ℕ_discrete}
use native.Mathlib.Omega.{arith}
use lib.Dec.{T, eqb, eqb_refl, eqb→eq, ltb, ltb→lt, lt→ltb, nltb→le}
use lib.IntN.{ℤ, pos, negsuc, ◌+ℤ◌, ◌-ℤ◌, +ℤ-neg_ℤ_cancel, +ℤ_assoc, +ℤ_comm, +ℤ_idr, pos-ne-negsuc}
use lib.Signed.{◌<ℤ◌}
use Rattle.finite.specs.Sums.{bit, sum, count, δ}
use Rattle.finite.specs.Lists.{All, sumℤ}
use Rattle.finite.proofs.Decide.{pos_inj}
use Rattle.finite.proofs.Sum.{sum-add, sum-zero, δ_other}

pub bit_yes : (b : Bool) → T b ↔ (bit b ≡ 1)
bit_yes true = (λ t. refl, λ e. tt)
bit_yes false = (λ t. absurd t, λ e. absurd (omega arith))

pub eqb_same : (a b : ℕ) → a ≡ b → eqb a b ≡ true
eqb_same a b e = rw e (go (eqb b b) (eqb_refl b))
  where
    go : (c : Bool) → T c → c ≡ true
    go true t = refl
    go false t = absurd t

pub eqb_cases : (a b : ℕ) → ((eqb a b ≡ true) × (a ≡ b)) ⊎ ((eqb a b ≡ false) × (a ≢ b))
eqb_cases a b = elim (ℕ_discrete a b) [ yes e ↦ inl (eqb_same a b e, e) | no d ↦ inr (go (eqb a b) (λ t. d (eqb→eq a b t)), d) ]
  where
    go : (c : Bool) → (T c → ⊥) → c ≡ false
    go true h = absurd (h tt)
    go false h = refl

pub δ_some : (a b : ℕ) → 0 < δ a b → a ≡ b
δ_some a b h = elim (ℕ_discrete a b) [ yes e ↦ e | no d ↦ absurd (omega (arith, δ_other a b d)) ]

pub or_left : (a b : Bool) → T a → T (a || b)
or_left true b t = tt
or_left false b t = absurd t

pub or_right : (a b : Bool) → T b → T (a || b)
or_right true b t = tt
or_right false b t = t

pub or-bit : (a b : Bool) → bit b ≤ bit (a || b)
or-bit true true = omega arith
or-bit true false = omega arith
or-bit false b = omega arith

-- ---- sums over a list

abbrev pub total : (ℕ → ℕ) → List ℕ → ℕ
total f [] = 0
total f (x ∷ l) = f x + total f l

pub total_sum : (n : ℕ) (f : ℕ → ℕ → ℕ) (l : List ℕ) → total (λ v. sum n (f v)) l ≡ sum n (λ c. total (λ v. f v c) l)
total_sum n f [] = sym (sum-zero n (λ c. 0) (λ c k. refl))
total_sum n f (v ∷ l) = ap (λ (x : ℕ). sum n (f v) + x) (total_sum n f l) ∙ sym (sum-add n (f v) (λ c. total (λ u. f u c) l))

pub total_miss : (v x : ℕ) (l : List ℕ) → All (λ u. v < u) l → total (λ u. δ v u * x) l ≡ 0
total_miss v x [] p = refl
total_miss v x (u ∷ l) p = rw (δ_other v u (λ e. omega (arith, p.0))) (omega (arith, total_miss v x l p.1))

-- ---- signed sums

sum_step : (b : Bool) (s z : ℤ) (c t y : ℕ) → z +ℤ pos 1 ≡ pos y → s +ℤ pos c ≡ pos t
    → (s +ℤ cond b z (pos 0)) +ℤ pos (c + bit b) ≡ pos (t + cond b y 0)
sum_step true s z c t y e h =
    +ℤ_assoc s z (pos c +ℤ pos 1)
    ∙ ap (λ (x : ℤ). s +ℤ x) (ap (λ (x : ℤ). z +ℤ x) (+ℤ_comm (pos c) (pos 1)) ∙ sym (+ℤ_assoc z (pos 1) (pos c)) ∙ ap (λ (x : ℤ). x +ℤ pos c) e ∙ +ℤ_comm (pos y) (pos c))
    ∙ sym (+ℤ_assoc s (pos c) (pos y))
    ∙ ap (λ (x : ℤ). x +ℤ pos y) h
sum_step false s z c t y e h = ap₂ (λ (x : ℤ) (k : ℕ). x +ℤ pos k) (+ℤ_idr s) (add-zero c) ∙ h ∙ ap pos (sym (add-zero t))

pub sumℤ_one : (n : ℕ) (p : ℕ → Bool) (z : ℕ → ℤ) (y : ℕ → ℕ) → ((k : ℕ) → z k +ℤ pos 1 ≡ pos (y k))
    → sumℤ n (λ k. cond (p k) (z k) (pos 0)) +ℤ pos (count n p) ≡ pos (sum n (λ k. cond (p k) (y k) 0))
unfolding sumℤ sum
sumℤ_one zero p z y e = refl
sumℤ_one (suc n) p z y e =
    sum_step (p n) (sumℤ n (λ k. cond (p k) (z k) (pos 0))) (z n) (count n p) (sum n (λ k. cond (p k) (y k) 0)) (y n) (e n) (sumℤ_one n p z y e)

pub pos_cancel : (z : ℤ) (c t : ℕ) → z +ℤ pos c ≡ pos (t + c) → z ≡ pos t
pos_cancel z c t e = sym (+ℤ-neg_ℤ_cancel z (pos c)) ∙ ap (λ (x : ℤ). x -ℤ pos c) e ∙ +ℤ-neg_ℤ_cancel (pos t) (pos c)

pub less_one : (z : ℤ) (c t k : ℕ) → z +ℤ pos c ≡ pos t → (z <ℤ pos k) ↔ (t < k + c)
less_one (pos a) c t k e =
    let h = pos_inj (a + c) t e in
    ((λ l. omega (arith, ltb→lt a k l.lt)), (λ l. record { lt = lt→ltb a k (omega arith) }))
less_one (negsuc a) c t k e = ((λ l. go (ltb c (suc a)) refl e), (λ l. record { lt = tt }))
  where
    go : (b : Bool) → ltb c (suc a) ≡ b → cond b (negsuc (suc a - suc c)) (pos (c - suc a)) ≡ pos t → t < k + c
    go true q h = absurd (pos-ne-negsuc t (suc a - suc c) (sym h))
    go false q h =
        let w : suc a ≤ c = nltb→le c (suc a) (rw q tt) in
        let v = pos_inj (c - suc a) t h in
        omega arith
