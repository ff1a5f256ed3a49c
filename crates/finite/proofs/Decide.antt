-- Decisions that compute: a condition's `Dec` is a test and its law in one. `is_yes d` is the test, `is_yes_lem d` and `is_no d` what it shows.
-- Assumes nothing.
use mathlib.Core.Path.{◌≡◌, refl, sym, ap, subst}
use mathlib.Core.Logic.{◌⊎◌, inl, inr}
use mathlib.Core.Bool.{Bool, true, false, cond, not, ◌&&◌}
use mathlib.Core.List.{List, [], ◌∷◌}
use Prim.Native.Nat.{ℕ, zero, suc, ◌≤◌, ◌<◌}
use native.Mathlib.Nat.{not-suc-le-zero}
use native.Mathlib.Decide.{ℕ_discrete, dec_le}
use native.Mathlib.Omega.{arith}
use lib.Dec.{T}
use Rattle.finite.specs.Lists.{All, Distinct, Ascending, LowestFirst}
use mathlib.Core.Logic.{◌≢◌}
use lib.IntN.{ℤ, pos, negsuc, pos-ne-negsuc}

-- ---- a decision as a test

abbrev pub is_yes : {A : Type 0} → Dec A → Bool
is_yes (yes a) = true
is_yes (no h) = false

pub is_yes_lem : {A : Type 0} (d : Dec A) → T (is_yes d) → A
is_yes_lem (yes a) t = a
is_yes_lem (no h) t = absurd t

pub is_no : {A : Type 0} (d : Dec A) → T (not (is_yes d)) → ¬ A
is_no (yes a) t = absurd t
is_no (no h) t = h

pub both_left : (a b : Bool) → T (a && b) → T a
both_left true b t = tt
both_left false b t = t

pub both_right : (a b : Bool) → T (a && b) → T b
both_right true b t = t
both_right false b t = absurd t

infixr 20 ◌×?◌ ◌⊎?◌ ◌→?◌
-- ---- the connectives

abbrev pub map? : {A B : Type 0} → (A → B) → (B → A) → Dec A → Dec B
map? f g (yes a) = yes (f a)
map? f g (no h) = no (λ b. h (g b))

abbrev pub ◌×?◌ : {A B : Type 0} → Dec A → Dec B → Dec (A × B)
◌×?◌ (yes a) (yes b) = yes (a, b)
◌×?◌ (yes a) (no h) = no (λ p. h p.1)
◌×?◌ (no h) d = no (λ p. h p.0)

abbrev pub ◌⊎?◌ : {A B : Type 0} → Dec A → Dec B → Dec (A ⊎ B)
◌⊎?◌ (yes a) d = yes (inl a)
◌⊎?◌ (no h) (yes b) = yes (inr b)
◌⊎?◌ (no h) (no k) = no (λ s. elim s [ inl a ↦ h a | inr b ↦ k b ])

abbrev pub ◌→?◌ : {A B : Type 0} → Dec A → Dec B → Dec (A → B)
◌→?◌ (yes a) (yes b) = yes (λ _. b)
◌→?◌ (yes a) (no h) = no (λ f. h (f a))
◌→?◌ (no h) d = yes (λ a. absurd (h a))

abbrev pub ¬? : {A : Type 0} → Dec A → Dec (¬ A)
¬? (yes a) = no (λ h. h a)
¬? (no h) = yes h

abbrev pub T? : (b : Bool) → Dec (T b)
T? true = yes tt
T? false = no (λ t. t)

abbrev pub cond? : {A B : Type 0} (b : Bool) → Dec A → Dec B → Dec (cond b A B)
cond? true d e = d
cond? false d e = e

unfoldable pub eq? : (m n : ℕ) → Dec (m ≡ n)
unfolding ℕ_discrete
eq? m n = ℕ_discrete m n

unfoldable pub le? : (m n : ℕ) → Dec (m ≤ n)
unfolding dec_le
le? m n = dec_le m n

abbrev pub lt? : (m n : ℕ) → Dec (m < n)
lt? m n = le? (suc m) n

pub pos_inj : (m n : ℕ) → pos m ≡ pos n → m ≡ n
pos_inj m n p = cc

pub negsuc_inj : (m n : ℕ) → negsuc m ≡ negsuc n → m ≡ n
negsuc_inj m n p = cc

abbrev pub eqℤ? : (m n : ℤ) → Dec (m ≡ n)
eqℤ? (pos m) (pos n) = map? (ap pos) (pos_inj m n) (eq? m n)
eqℤ? (pos m) (negsuc n) = no (pos-ne-negsuc m n)
eqℤ? (negsuc m) (pos n) = no (λ p. pos-ne-negsuc n m (sym p))
eqℤ? (negsuc m) (negsuc n) = map? (ap negsuc) (negsuc_inj m n) (eq? m n)

-- ---- below a bound

pub more : (n : ℕ) (P : ℕ → Type 0) → ((k : ℕ) → k < n → P k) × P n → (k : ℕ) → k < suc n → P k
more n P h k l = go (ℕ_discrete k n)
  where
    go : Dec (k ≡ n) → P k
    go (yes e) = subst P (sym e) h.1
    go (no e) = h.0 k (omega arith)

pub less : (n : ℕ) (P : ℕ → Type 0) → ((k : ℕ) → k < suc n → P k) → ((k : ℕ) → k < n → P k) × P n
less n P h = (λ k l. h k (omega arith), h n (omega arith))

unfoldable pub all? : (n : ℕ) (P : ℕ → Type 0) → ((k : ℕ) → Dec (P k)) → Dec ((k : ℕ) → k < n → P k)
all? zero P d = yes (λ k l. absurd (not-suc-le-zero l))
all? (suc n) P d = map? (more n P) (less n P) (all? n P d ×? d n)

pub found : (n : ℕ) (P : ℕ → Type 0) → ((k : ℕ) × (k < n) × P k) ⊎ P n → (k : ℕ) × (k < suc n) × P k
found n P (inl h) = (h.0, omega arith, h.2)
found n P (inr p) = (n, omega arith, p)

pub lost : (n : ℕ) (P : ℕ → Type 0) → (k : ℕ) × (k < suc n) × P k → ((k : ℕ) × (k < n) × P k) ⊎ P n
lost n P h = go (ℕ_discrete h.0 n)
  where
    go : Dec (h.0 ≡ n) → ((k : ℕ) × (k < n) × P k) ⊎ P n
    go (yes e) = inr (subst P e h.2)
    go (no e) = inl (h.0, omega arith, h.2)

unfoldable pub any? : (n : ℕ) (P : ℕ → Type 0) → ((k : ℕ) → Dec (P k)) → Dec ((k : ℕ) × (k < n) × P k)
any? zero P d = no (λ h. not-suc-le-zero h.1)
any? (suc n) P d = map? (found n P) (lost n P) (any? n P d ⊎? d n)

-- ---- lists of numbers

pub nil≢cons : {A : Type 0} {x : A} {xs : List A} → [] ≡ x ∷ xs → ⊥
nil≢cons p = let z : ◌≡◌ {A = ℕ} 0 1 = cc in omega arith

pub cons≢nil : {A : Type 0} {x : A} {xs : List A} → x ∷ xs ≡ [] → ⊥
cons≢nil p = let z : ◌≡◌ {A = ℕ} 0 1 = cc in omega arith

pub cons-eq : {A : Type 0} {x y : A} {xs ys : List A} → (x ≡ y) × (xs ≡ ys) → x ∷ xs ≡ y ∷ ys
cons-eq {x} {y} {xs} {ys} h = let p : x ≡ y = h.0 in let q : xs ≡ ys = h.1 in cc

pub eq-cons : {A : Type 0} {x y : A} {xs ys : List A} → x ∷ xs ≡ y ∷ ys → (x ≡ y) × (xs ≡ ys)
eq-cons p = (cc, cc)

abbrev pub lists? : {A : Type 0} → ((x y : A) → Dec (x ≡ y)) → (l m : List A) → Dec (l ≡ m)
lists? d [] [] = yes refl
lists? d [] (y ∷ ys) = no nil≢cons
lists? d (x ∷ xs) [] = no cons≢nil
lists? d (x ∷ xs) (y ∷ ys) = map? cons-eq eq-cons (d x y ×? lists? d xs ys)

abbrev pub same? : (l m : List ℕ) → Dec (l ≡ m)
same? l m = lists? eq? l m

unfoldable pub same_ℤ? : (l m : List ℤ) → Dec (l ≡ m)
unfolding eq?
same_ℤ? l m = lists? eqℤ? l m

-- ---- what a list of numbers may satisfy

abbrev pub all_of? : (P : ℕ → Type 0) → ((x : ℕ) → Dec (P x)) → (l : List ℕ) → Dec (All P l)
all_of? P d [] = yes tt
all_of? P d (x ∷ xs) = d x ×? all_of? P d xs

abbrev pub distinct? : (l : List ℕ) → Dec (Distinct l)
distinct? [] = yes tt
distinct? (x ∷ xs) = all_of? (λ y. x ≢ y) (λ y. ¬? (eq? x y)) xs ×? distinct? xs

abbrev pub ascending? : (l : List ℕ) → Dec (Ascending l)
ascending? [] = yes tt
ascending? (x ∷ xs) = all_of? (λ y. x < y) (λ y. lt? x y) xs ×? ascending? xs

abbrev pub lowest_first? : (l : List ℕ) → Dec (LowestFirst l)
lowest_first? [] = yes tt
lowest_first? (x ∷ xs) = all_of? (λ y. x ≤ y) (λ y. le? x y) xs
