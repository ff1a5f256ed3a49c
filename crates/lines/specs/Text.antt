-- Text put into bytes, and the lines of a listing. Assumes nothing.
--   over s at t          the bytes s with the text t from the place at on
--   Wrote s at t s' r    there was room, that is what s became, and r is the place after the text
--   heading n            the first line of a listing
--   line w x             a line of the word w and the number x
--   pair v c             the line of the event v and its corner c
use Rattle.std.specs.Prelude.{◌≡◌, List, ◌++◌, ℕ, ◌+◌, ◌≤◌, length, take, drop}
use Rattle.rules.specs.Listing.{ascii, decimal, saying}

unfoldable pub over : List ℕ → ℕ → List ℕ → List ℕ
over s at t = take at s ++ t ++ drop (at + length t) s

pub record Wrote (s : List ℕ) (at : ℕ) (t s' : List ℕ) (r : ℕ) : Type 0 where
  pub room : at + length t ≤ length s
  pub left : s' ≡ over s at t
  pub end : r ≡ at + length t

-- "`result`, the number and the words above"
abbrev pub heading : ℕ → List ℕ
heading n = ascii "result " ++ decimal n ++ ascii " " ++ saying n ++ ascii "\n"

-- "a line `event n`", "a line `arrow n`"
abbrev pub line : List ℕ → ℕ → List ℕ
line w x = w ++ decimal x ++ ascii "\n"

abbrev pub pair : ℕ → ℕ → List ℕ
pair v c = ascii "event " ++ decimal v ++ ascii " corner " ++ decimal c ++ ascii "\n"
