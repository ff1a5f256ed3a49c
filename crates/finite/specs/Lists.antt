-- What a list of numbers may satisfy, and a signed sum. Assumes nothing.
--   All P l          every entry has P
--   Distinct l       no entry stands twice
--   Ascending l      strictly ascending
--   LowestFirst l    no entry is below the first
--   sumℤ n f         f 0 + .. + f (n - 1), signed
use Rattle.std.specs.Prelude.{◌≢◌, List, [], ◌∷◌, ℕ, zero, suc, ◌≤◌, ◌<◌, ℤ, pos, ◌+ℤ◌}

abbrev pub All : (ℕ → Type 0) → List ℕ → Type 0
All P [] = Unit {0}
All P (x ∷ xs) = P x × All P xs

abbrev pub Distinct : List ℕ → Type 0
Distinct [] = Unit {0}
Distinct (x ∷ xs) = All (λ y. x ≢ y) xs × Distinct xs

abbrev pub Ascending : List ℕ → Type 0
Ascending [] = Unit {0}
Ascending (x ∷ xs) = All (λ y. x < y) xs × Ascending xs

abbrev pub LowestFirst : List ℕ → Type 0
LowestFirst [] = Unit {0}
LowestFirst (x ∷ xs) = All (λ y. x ≤ y) xs

unfoldable pub sumℤ : ℕ → (ℕ → ℤ) → ℤ
sumℤ zero f = pos 0
sumℤ (suc n) f = sumℤ n f +ℤ f n
