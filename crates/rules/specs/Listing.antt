-- The listing of a chart, given the number and the entries of its report (document 01, "The listing"). Assumes nothing.
--   input_room               how much of standard input the listing program reads
--   saying, listing          the words of a number; the listing's text
use Rattle.std.specs.Prelude.{ℕ, zero, suc, ◌+◌, ◌/◌, ◌%◌, cond, ◌&&◌, ◌||◌, List, [], ◌∷◌, ◌++◌, eqb, ltb, get_or}
use Prim.Native.Char.{code}
use Prim.Native.String as Str
use Prim.Native.String.{String}
use Rattle.finite.specs.Sums.{below}
use Rattle.drawing.specs.Drawing.{Drawing, darts, event, pole}
use Rattle.drawing.specs.Conditions.{label}

-- "24,588 bytes at most (one over the limit, so that an overlong chart gets 5)"
abbrev pub input_room : ℕ
input_room = 24588

unfoldable pub ascii : String → List ℕ
ascii Str.[] = []
ascii (Str.◌∷◌ c s) = code c ∷ ascii s

-- in decimal, for numbers of at most k digits
unfoldable pub digits : ℕ → ℕ → List ℕ
digits zero n = []
digits (suc k) n = let r = digits k (n / 10) in cond (ltb n 10) ((48 + n) ∷ []) (r ++ ((48 + n % 10) ∷ []))

abbrev pub decimal : ℕ → List ℕ
decimal n = digits 5 n

-- "the words above": the second column of the number table
unfoldable pub saying : ℕ → List ℕ
unfolding ascii
saying n =
    ascii (get_or ("drawable" ∷ "short report" ∷ "mark" ∷ "version" ∷ "counts" ∷ "length" ∷ "unknown event" ∷ "own arrow" ∷ "outer dart" ∷ "order" ∷ "parted"
    ∷ "crossing" ∷ "mixed" ∷ "circle" ∷ "no room" ∷ []) n "")

unfoldable pub each : (ℕ → List ℕ) → List ℕ → List ℕ
each f [] = []
each f (x ∷ l) = f x ++ each f l

-- the large corner of v
unfoldable pub large_corner : Drawing → List ℕ → ℕ → ℕ
unfolding below
large_corner g l v = get_or (below (darts g) (λ c. eqb (event g c) v && eqb (label l c) 2)) 0 0

-- "It prints `result`, the number and the words above. Then for 0 one line for each source or sink, ascending, with its large corner;
-- for 12 and 14 a line `event n`; for 13 a line `arrow n`."
unfoldable pub listing : Drawing → ℕ → List ℕ → List ℕ
unfolding ascii digits saying each below large_corner
listing g n l =
    ascii "result " ++ decimal n ++ ascii " " ++ saying n ++ ascii "\n"
    ++ cond (eqb n 0) (each (λ v. ascii "event " ++ decimal v ++ ascii " corner " ++ decimal (large_corner g l v) ++ ascii "\n") (below g.events (pole g)))
    (cond (eqb n 12 || eqb n 14) (each (λ v. ascii "event " ++ decimal v ++ ascii "\n") l)
    (cond (eqb n 13) (each (λ a. ascii "arrow " ++ decimal a ++ ascii "\n") l) []))
