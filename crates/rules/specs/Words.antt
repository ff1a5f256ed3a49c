-- Numbers of 16 bits in bytes, low byte first (document 01, "Numbers are 16-bit, low byte first"). Assumes nothing.
--   u16 s i       the number in the bytes i and i + 1 of s
--   words s i n   the n numbers that stand in s from byte i on
--   bytes l       the numbers of l as bytes
use Rattle.std.specs.Prelude.{ℕ, zero, suc, ◌+◌, ◌*◌, ◌/◌, ◌%◌, List, [], ◌∷◌, get_or}

unfoldable pub u16 : List ℕ → ℕ → ℕ
u16 s i = get_or s i 0 + 256 * get_or s (i + 1) 0

unfoldable pub words : List ℕ → ℕ → ℕ → List ℕ
words s i zero = []
words s i (suc n) = u16 s i ∷ words s (i + 2) n

unfoldable pub bytes : List ℕ → List ℕ
bytes [] = []
bytes (x ∷ xs) = x % 256 ∷ x / 256 ∷ bytes xs
