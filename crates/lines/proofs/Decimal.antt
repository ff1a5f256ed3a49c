-- Decimal numbers are std's, and have four digits at most. Assumes nothing.
use mathlib.Core.Path.{◌≡◌, ap}
use mathlib.Core.List.{List, ◌++◌}
use Prim.Native.Nat.{ℕ, ◌+◌, ◌≤◌, ◌<◌}
use native.Mathlib.Omega.{arith}
use borrow.Author.Tests.{lt-ltb, le-ltb}
use Rattle.std.proofs.lemmas.Fmt.{AppendsLastDigit, decimal_from_appends, length-decimal-le}
use Rattle.std.specs.Fmt as fmt
use lib.ListN.{length, length-append}
use Rattle.rules.specs.Listing.{digits, decimal}

-- "a number of several digits is all but its last digit, and that one"
appends : AppendsLastDigit digits
unfolding digits
appends = record { one = λ k n l. rw (lt-ltb n 10 l); more = λ k n l. rw (le-ltb n 10 l) }

pub decimal_is : (n : ℕ) → n < 65536 → decimal n ≡ fmt.decimal n
decimal_is n l = decimal_from_appends digits appends 5 n (omega arith) (length-decimal-le 5 n (omega arith) (omega arith) (omega arith))

-- the numbers of a listing have four digits at most
pub decimal_short : (n : ℕ) → n < 10000 → length (decimal n) ≤ 4
decimal_short n l = omega (arith, ap length (decimal_is n (omega arith)), length-decimal-le 4 n (omega arith) (omega arith) (omega arith))

-- a word and a number
pub named_short : (w : List ℕ) (n : ℕ) → n < 10000 → length (w ++ decimal n) ≤ length w + 4
named_short w n l = omega (arith, length-append w (decimal n), decimal_short n l)

-- a line of four parts
pub length_four : (a b c d : List ℕ) → length (a ++ b ++ c ++ d) ≡ length a + length b + length c + length d
length_four a b c d = omega (arith, length-append (a ++ b ++ c) d, length-append (a ++ b) c, length-append a b)
