-- Steps of a map, and the least number met on the way. Assumes nothing.
--   iter p k d       k steps of p from d
--   Reach p d e      e is reached from d
--   least n f        the least of f 0 .. f n
--   lowest n p d     the least number among d and what n steps of p from d meet: the name of d's orbit
--   Into n m p       p takes the numbers below n to numbers below m
--   Inj n p          p takes two numbers below n to one only if they are one
use Rattle.std.specs.Prelude.{◌≡◌, ℕ, zero, suc, ◌<◌, min}

unfoldable pub iter : (ℕ → ℕ) → ℕ → ℕ → ℕ
iter p zero d = d
iter p (suc k) d = p (iter p k d)

abbrev pub Reach : (ℕ → ℕ) → ℕ → ℕ → Type 0
Reach p d e = (k : ℕ) × (iter p k d ≡ e)

unfoldable pub least : ℕ → (ℕ → ℕ) → ℕ
least zero f = f 0
least (suc n) f = min (least n f) (f (suc n))

unfoldable pub lowest : ℕ → (ℕ → ℕ) → ℕ → ℕ
lowest n p d = least n (λ k. iter p k d)

abbrev pub Into : ℕ → ℕ → (ℕ → ℕ) → Type 0
Into n m p = (i : ℕ) → i < n → p i < m

abbrev pub Inj : ℕ → (ℕ → ℕ) → Type 0
Inj n p = (i j : ℕ) → i < n → j < n → p i ≡ p j → i ≡ j
