-- The lines that follow the first: what they are made from, and the room for them. Assumes nothing.
--   numbers b            the 16-bit numbers in a report's body b
--   Lined o at w b       there is room in o for a line of the word w for each of them
--   placed t v           the table t has a corner for the event v: 65535 stands for none
--   entry t v            the line of the event v, if it has one
--   pairs t n            the lines of the events below n
--   Table t              a table of as many events and corners as there can be
--   large_at g l v c     the corner c is one of the event v, and l labels it large
--   Noted g l c t        the table t has for each event the first of its large corners below c
--   corners g l          the lines of the sources and sinks
--   Labelled o at s l    l labels the chart s, and there is room in o for the lines of its events
use Rattle.std.specs.Prelude.{◌≡◌, Bool, cond, ◌&&◌, List, [], ℕ, ◌+◌, ◌*◌, ◌/◌, ◌≤◌, ◌<◌, eqb, ltb, length, get_or}
use Rattle.finite.specs.Sums.{below}
use Rattle.finite.specs.Lists.{All}
use Rattle.drawing.specs.Drawing.{Drawing, event, pole}
use Rattle.drawing.specs.Conditions.{EventsKnown, label, Labelling}
use Rattle.rules.specs.Words.{words}
use Rattle.rules.specs.Chart.{drawing}
use Rattle.rules.specs.Listing.{each, large_corner}
use Rattle.words.specs.Tables.{nth}
use Rattle.chart.specs.Shape.{Shape}
use Rattle.lines.specs.Text.{pair}

-- ---- a word and a number

abbrev pub numbers : List ℕ → List ℕ
numbers b = words b 0 (length b / 2)

-- a line has 11 bytes at most: a word of 6, a number of 4, the end
pub record Lined (o : List ℕ) (at : ℕ) (w b : List ℕ) : Type 0 where
  pub room : at + 11 * (length b / 2) ≤ length o
  pub word : length w ≤ 6
  pub low : All (λ x. x < 10000) (numbers b)

-- ---- events and their large corners

abbrev pub placed : List ℕ → ℕ → Bool
placed t v = ltb (nth t v) 65535

abbrev pub entry : List ℕ → ℕ → List ℕ
entry t v = cond (placed t v) (pair v (nth t v)) []

abbrev pub pairs : List ℕ → ℕ → List ℕ
pairs t n = each (λ v. pair v (nth t v)) (below n (placed t))

pub record Table (t : List ℕ) : Type 0 where
  pub size : length t ≤ 1024
  pub low : (v : ℕ) → v < length t → nth t v < 65535 → nth t v < 6144

abbrev pub large_at : Drawing → List ℕ → ℕ → ℕ → Bool
large_at g l v c = eqb (event g c) v && eqb (label l c) 2

pub record Noted (g : Drawing) (l : List ℕ) (c : ℕ) (t : List ℕ) : Type 0 where
  pub size : length t ≡ g.events
  pub each : (v : ℕ) → v < g.events → nth t v ≡ get_or (below c (large_at g l v)) 0 65535

-- "one line for each source or sink, ascending, with its large corner"
abbrev pub corners : Drawing → List ℕ → List ℕ
corners g l = each (λ v. pair v (large_corner g l v)) (below g.events (pole g))

-- a line has 23 bytes at most
pub record Labelled (o : List ℕ) (at : ℕ) (s l : List ℕ) : Type 0 where
  pub shape : Shape s (length l)
  pub known : EventsKnown (drawing s)
  pub labelling : Labelling (drawing s) l
  pub room : at + 23 * (drawing s).events ≤ length o
