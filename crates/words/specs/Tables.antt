-- Tables of 16-bit numbers, and a number stored in bytes. Assumes nothing.
--   nth l i              entry i of the table l
--   with_word s i v      s with the number v in its bytes i and i + 1, low byte first
use Rattle.std.specs.Prelude.{ℕ, ◌+◌, ◌/◌, ◌%◌, List, get_or, set}

abbrev pub nth : List ℕ → ℕ → ℕ
nth l i = get_or l i 0

unfoldable pub with_word : List ℕ → ℕ → ℕ → List ℕ
with_word s i v = set (set s i (v % 256)) (i + 1) (v / 256)
