-- Lists of tests, one after the other: the number given by the whole, from the numbers given by its parts. Assumes nothing.
use mathlib.Core.Path.{◌≡◌, refl, sym}
use mathlib.Core.Bool.{Bool, true, false, not}
use mathlib.Core.Logic.{◌≢◌, inl, inr}
use mathlib.Core.List.{List, [], ◌∷◌, ◌++◌}
use Prim.Native.Nat.{ℕ, ◌≤◌, min, max}
use native.Mathlib.Omega.{arith}
use Rattle.finite.specs.Says.{Says}
use Rattle.finite.proofs.Yes.{says_still, says_unless}
use Rattle.rules.specs.Tests.{Test, number, Passes, Given, short, mark, version, counts, size, unknown, own, outer, order, parted, crossing, mixing, circle, no_room}

-- a bool that says whether a chart passes a test, where `!` of it is known
pub passes : (t : Test) (s : List ℕ) (r : ℕ) (b : Bool) → not b ≡ false → Says b (Passes t s r) → Passes t s r
passes t s r b e p = says_still b e p

pub fails : (t : Test) (s : List ℕ) (r : ℕ) (b : Bool) → not b ≡ true → Says b (Passes t s r) → ¬ Passes t s r
fails t s r b e p = says_unless b e p

-- ---- the numbers of tests

-- the highest number that a list of tests gives
abbrev pub highest : List Test → ℕ
highest [] = 0
highest (t ∷ ts) = max (number t) (highest ts)

pub given_highest : (ts : List Test) (s : List ℕ) (r n : ℕ) → Given ts s r n → n ≤ highest ts
given_highest [] s r n g = omega (arith, g)
given_highest (t ∷ ts) s r n (inl g) = omega (arith, g.1)
given_highest (t ∷ ts) s r n (inr g) = omega (arith, given_highest ts s r n g.1)

-- the lowest number of a test of a list
abbrev pub lowest_number : List Test → ℕ
lowest_number [] = 0
lowest_number (t ∷ []) = number t
lowest_number (t ∷ u ∷ us) = min (number t) (lowest_number (u ∷ us))

pub given_lowest : (ts : List Test) (s : List ℕ) (r n : ℕ) → n ≢ 0 → Given ts s r n → lowest_number ts ≤ n
given_lowest [] s r n z g = omega arith
given_lowest (t ∷ []) s r n z (inl g) = omega (arith, g.1)
given_lowest (t ∷ []) s r n z (inr g) = absurd (z g.1)
given_lowest (t ∷ u ∷ us) s r n z (inl g) = omega (arith, g.1)
given_lowest (t ∷ u ∷ us) s r n z (inr g) = omega (arith, given_lowest (u ∷ us) s r n z g.1)

-- 0 is no test's number
pub number_some : (t : Test) → number t ≢ 0
number_some short = λ e. omega arith
number_some mark = λ e. omega arith
number_some version = λ e. omega arith
number_some counts = λ e. omega arith
number_some size = λ e. omega arith
number_some unknown = λ e. omega arith
number_some own = λ e. omega arith
number_some outer = λ e. omega arith
number_some order = λ e. omega arith
number_some parted = λ e. omega arith
number_some crossing = λ e. omega arith
number_some mixing = λ e. omega arith
number_some circle = λ e. omega arith
number_some no_room = λ e. omega arith

-- where no test of a list fails, its first passes, and none of the others fails
pub given_first : (t : Test) (ts : List Test) (s : List ℕ) (r : ℕ) → Given (t ∷ ts) s r 0 → Passes t s r × Given ts s r 0
given_first t ts s r (inl g) = absurd (number_some t (sym g.1))
given_first t ts s r (inr g) = g

-- where the first list finds no fault, the whole gives what the second gives
pub given_append : (ts us : List Test) (s : List ℕ) (r n : ℕ) → Given ts s r 0 → Given us s r n → Given (ts ++ us) s r n
given_append [] us s r n g h = h
given_append (t ∷ ts) us s r n g h = let f = given_first t ts s r g in inr (f.0, given_append ts us s r n f.1 h)

-- a fault of the first list is the fault of the whole
pub given_left : (ts us : List Test) (s : List ℕ) (r n : ℕ) → n ≢ 0 → Given ts s r n → Given (ts ++ us) s r n
given_left [] us s r n f g = absurd (f g)
given_left (t ∷ ts) us s r n f (inl g) = inl g
given_left (t ∷ ts) us s r n f (inr g) = inr (g.0, given_left ts us s r n f g.1)

-- where the whole finds no fault, neither list does
pub given_parts : (ts us : List Test) (s : List ℕ) (r : ℕ) → Given (ts ++ us) s r 0 → Given ts s r 0 × Given us s r 0
given_parts [] us s r g = (refl, g)
given_parts (t ∷ ts) us s r g =
    let f = given_first t (ts ++ us) s r g in
    let h = given_parts ts us s r f.1 in
    (inr (f.0, h.0), h.1)
