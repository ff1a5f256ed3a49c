-- The report: its bytes, what a run of the test leaves, and its reader (document 01, "The report" and below the number table). Assumes nothing.
--   writes, entry, report      what is written
--   Entries, Run, Outcome      what a run of some tests leaves, and of all: the test
--   is_well_formed, form, body, entries      the reader
use Rattle.std.specs.Prelude.{◌≡◌, Bool, cond, ◌&&◌, ◌||◌, List, [], ◌∷◌, ◌++◌, ℕ, ◌+◌, ◌*◌, eqb, leb, length, get_or, take, drop}
use Rattle.finite.specs.Lists.{LowestFirst}
use Rattle.drawing.specs.Drawing.{Drawing, mixed_events}
use Rattle.drawing.specs.Conditions.{Circle, Labelling, Cut}
use Rattle.rules.specs.Words.{u16, words, bytes}
use Rattle.rules.specs.Chart.{drawing}
use Rattle.rules.specs.Tests.{Test, tests, Given}

-- ---- what is written

-- the results that write a report: "For 1 to 11 that length is 0 and the report keeps its bytes."
abbrev pub writes : ℕ → Bool
writes n = eqb n 0 || eqb n 12 || eqb n 13 || eqb n 14

-- bytes of an entry: "one label byte for each corner"; "Entries for 12 to 14 have 16 bits"
abbrev pub entry : ℕ → ℕ
entry n = cond (eqb n 0) 1 2

-- the report with the result n and the entries l: "Bytes 0-2 `EVR`, 3-4 version 1, 5 result, 6-7 count, then the body"; nothing at all for a result that writes none
unfoldable pub report : ℕ → List ℕ → List ℕ
unfolding bytes
report n l = cond (writes n) (69 ∷ 86 ∷ 82 ∷ 1 ∷ 0 ∷ n ∷ bytes (length l ∷ []) ++ cond (eqb n 0) l (bytes l)) []

-- l may be the entries for the result n: "Result 0: .. one label byte for each corner in number order. 12: .. the lowest mixed event. 13: the arrows of a circle
-- in order, lowest arrow first. 14: the events of a cut, ascending." Which labelling, which circle and which cut is free; everything else is fixed
abbrev pub Entries : Drawing → ℕ → List ℕ → Type 0
Entries g n l =
    cond (eqb n 0) (Labelling g l)
    (cond (eqb n 12) (l ≡ take 1 (mixed_events g))
    (cond (eqb n 13) (Circle g l × LowestFirst l)
    (cond (eqb n 14) (Cut g l) (l ≡ []))))

-- a run of the tests ts, in order, on the chart s and the lent report r: the number n, w bytes written, and the report r' afterwards. "Bytes beyond stay."
pub record Run (ts : List Test) (s r : List ℕ) (n w : ℕ) (r' : List ℕ) : Type 0 where
  pub given : Given ts s (length r) n
  pub entries : List ℕ
  pub allowed : Entries (drawing s) n entries
  pub written : w ≡ length (report n entries)
  pub left : r' ≡ report n entries ++ drop w r

-- the test runs them all
abbrev pub Outcome : List ℕ → List ℕ → ℕ → ℕ → List ℕ → Type 0
Outcome s r n w r' = Run tests s r n w r'

-- ---- the reader: "checks that there are at least 8 bytes, the mark, version, a result of 0, 12, 13 or 14, and the exact length"

pub data Form : Type 0 where
  good : (result count : ℕ) → Form
  bad : Form

abbrev pub result_in : List ℕ → ℕ
result_in r = get_or r 5 0

abbrev pub count_in : List ℕ → ℕ
count_in r = u16 r 6

unfoldable pub is_well_formed : List ℕ → Bool
is_well_formed r =
    leb 8 (length r)
    && (eqb (get_or r 0 0) 69 && eqb (get_or r 1 0) 86 && eqb (get_or r 2 0) 82)
    && eqb (u16 r 3) 1
    && writes (result_in r)
    && eqb (length r) (8 + entry (result_in r) * count_in r)

-- "One call answers with the result and the count, or says bad form"
unfoldable pub form : List ℕ → Form
form r = cond (is_well_formed r) (good (result_in r) (count_in r)) bad

-- "another hands back the body of the report as that stretch of the caller's bytes, or the empty stretch at its start on bad form": where it starts, and its bytes
abbrev pub body_start : List ℕ → ℕ
body_start r = cond (is_well_formed r) 8 0

unfoldable pub body : List ℕ → List ℕ
body r = cond (is_well_formed r) (drop 8 r) []

-- the entries of a report: labels, or numbers of 16 bits
unfoldable pub entries : List ℕ → List ℕ
entries r = cond (eqb (result_in r) 0) (body r) (words (body r) 0 (count_in r))
