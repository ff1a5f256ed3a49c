-- Entries of a table of 16-bit numbers. Assumes nothing.
use mathlib.Core.Path.{◌≡◌}
use mathlib.Core.List.{List}
use Prim.Native.Nat.{ℕ, ◌<◌}
use native.Mathlib.Omega.{arith}
use Rattle.words.specs.Tables.{nth}

-- what is read there is such a number
pub read_few : (l : List ℕ) (i x : ℕ) → ((j : ℕ) → nth l j < 65536) → x ≡ nth l i → x < 65536
read_few l i x h q = omega (arith, h i)
