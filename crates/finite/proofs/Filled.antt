-- Tables filled with one number, the part of one that is lent, and tables of values. Assumes nothing.
--   past             nothing stands beyond a table's end: what is read there is 0
--   lent             the first n entries of a filled table are a filled table
--   blank            a table filled with 0 has 0 wherever it is read
--   table n f        f 0, .., f (n - 1)
use mathlib.Core.Path.{◌≡◌, refl, ap, ◌∙◌}
use mathlib.Core.List.{List, [], ◌∷◌}
use Prim.Native.Nat.{ℕ, zero, suc, ◌-◌, ◌<◌, ◌≤◌}
use native.Mathlib.Nat.{not-suc-le-zero, le_of_suc-le-suc}
use native.Mathlib.Decide.{dec_lt}
use native.Mathlib.Omega.{arith}
use lib.ListN.{length, get_or, take, replicate, length-replicate, get_or-replicate, get_or-eq_default}

pub past : (l : List ℕ) (i : ℕ) → length l ≤ i → get_or l i 0 ≡ 0
past l i h = get_or-eq_default l 0 h

take_filled : (m n x : ℕ) → n ≤ m → take n (replicate m x) ≡ replicate n x
take_filled m zero x h = refl
take_filled zero (suc n) x h = absurd (not-suc-le-zero h)
take_filled (suc m) (suc n) x h = ap (λ (l : List ℕ). x ∷ l) (take_filled m n x (le_of_suc-le-suc h))

pub lent : (m n x : ℕ) → n ≤ m → take (n - 0) (replicate m x) ≡ replicate n x
lent m n x h = let e : n - 0 ≡ n = omega arith in rw e (take_filled m n x h)

pub lent_length : (m n x : ℕ) → n ≤ m → length (take (n - 0) (replicate m x)) ≡ n
lent_length m n x h = ap length (lent m n x h) ∙ length-replicate n x

pub blank : (l : List ℕ) (k : ℕ) → l ≡ replicate k 0 → (i : ℕ) → get_or l i 0 ≡ 0
blank l k e i = elim (dec_lt i k) [
  | yes q ↦ ap (λ (t : List ℕ). get_or t i 0) e ∙ get_or-replicate {A = ℕ} k i 0 0 q
  | no q ↦ past l i (omega (arith, ap length e ∙ length-replicate k 0))
]

unfoldable pub table : ℕ → (ℕ → ℕ) → List ℕ
table zero f = []
table (suc n) f = f 0 ∷ table n (λ i. f (suc i))

pub table_length : (n : ℕ) (f : ℕ → ℕ) → length (table n f) ≡ n
unfolding table
table_length zero f = refl
table_length (suc n) f = ap suc (table_length n (λ i. f (suc i)))

pub table_at : (n : ℕ) (f : ℕ → ℕ) (i : ℕ) → i < n → get_or (table n f) i 0 ≡ f i
unfolding table
table_at zero f i l = absurd (not-suc-le-zero l)
table_at (suc n) f zero l = refl
table_at (suc n) f (suc i) l = table_at n (λ i. f (suc i)) i (le_of_suc-le-suc l)
