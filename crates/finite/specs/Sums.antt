-- Sums and counts over the numbers below a bound. Assumes nothing.
--   bit b            1 for true, 0 for false
--   sum n f          f 0 + .. + f (n - 1)
--   count n p        how many numbers below n pass the test p
--   δ a b            1 if a is b, else 0
--   class n k w v    the sum of w c over the numbers c below n whose key k c is v: the weight of the class v
--   below n p        the numbers below n that pass the test p, ascending
use Rattle.std.specs.Prelude.{ℕ, zero, suc, ◌+◌, ◌*◌, Bool, true, false, cond, List, [], ◌∷◌, ◌++◌, eqb}

abbrev pub bit : Bool → ℕ
bit true = 1
bit false = 0

unfoldable pub sum : ℕ → (ℕ → ℕ) → ℕ
sum zero f = 0
sum (suc n) f = sum n f + f n

abbrev pub count : ℕ → (ℕ → Bool) → ℕ
count n p = sum n (λ i. bit (p i))

unfoldable pub δ : ℕ → ℕ → ℕ
δ a b = bit (eqb a b)

unfoldable pub class : ℕ → (ℕ → ℕ) → (ℕ → ℕ) → ℕ → ℕ
class n k w v = sum n (λ c. δ (k c) v * w c)

unfoldable pub below : ℕ → (ℕ → Bool) → List ℕ
below zero p = []
below (suc n) p = below n p ++ cond (p n) (n ∷ []) []
