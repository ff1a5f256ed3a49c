-- The numbers given, in order of test (document 01, "Numbers given, in order of test"). Assumes nothing.
--   Test, number      the tests, each with its number
--   Passes t s r      the chart s passes the test t, with r bytes of report lent
--   Given ts s r n    n is the number of the first test of ts that fails, or 0 where all pass
--   faults, tests     the chart's own faults 2 to 13, which the judge shares; all the tests
use Rattle.std.specs.Prelude.{◌≡◌, ◌⊎◌, List, [], ◌∷◌, ◌++◌, ℕ, ◌+◌, ◌*◌, ◌≤◌, length, take}
use Rattle.drawing.specs.Conditions.{EventsKnown, NoOwnArrow, OuterKnown, Rings, Joined, Planar, NoneMixed, NoCircle, Drawable}
use Rattle.rules.specs.Words.{u16}
use Rattle.rules.specs.Chart.{drawing, events_in, arrows_in}

-- the report room that the test asks for: "lent report under 6,152 bytes" gets 1. It is 8 bytes and a label for each of 6,144 corners
abbrev pub report_room : ℕ
report_room = 6152

pub data Test : Type 0 where
  short mark version counts size unknown own outer order parted crossing mixing circle no_room : Test

abbrev pub number : Test → ℕ
number short = 1
number mark = 2
number version = 3
number counts = 4
number size = 5
number unknown = 6
number own = 7
number outer = 8
number order = 9
number parted = 10
number crossing = 11
number mixing = 12
number circle = 13
number no_room = 14

abbrev pub Passes : Test → List ℕ → ℕ → Type 0
-- 1 "lent report under 6,152 bytes"
Passes short s r = report_room ≤ r
-- 2 "chart under 11 bytes, or wrong mark": `EVC`
Passes mark s r = (11 ≤ length s) × (take 3 s ≡ 69 ∷ 86 ∷ 67 ∷ [])
-- 3 "not 1"
Passes version s r = u16 s 3 ≡ 1
-- 4 "V or A outside its range": "2 to 1,024", "1 to 3,072"
Passes counts s r = (2 ≤ events_in s) × (events_in s ≤ 1024) × (1 ≤ arrows_in s) × (arrows_in s ≤ 3072)
-- 5 "not 11 + 8A"
Passes size s r = length s ≡ 11 + 8 * arrows_in s
-- 6 "a tail or head is V or more"
Passes unknown s r = EventsKnown (drawing s)
-- 7 "a tail equals its head"
Passes own s r = NoOwnArrow (drawing s)
-- 8 "2A or more"
Passes outer s r = OuterKnown (drawing s)
-- 9 "an entry is 2A or more, or the successors aren't one ring for each event that has darts, holding exactly its darts"
Passes order s r = Rings (drawing s)
-- 10 "the arrows, direction ignored, don't join all events"
Passes parted s r = Joined (drawing s)
-- 11 "V - A + faces is not 2"
Passes crossing s r = Planar (drawing s)
-- 12 "some event is mixed"
Passes mixing s r = NoneMixed (drawing s)
-- 13 "some arrows form a circle"
Passes circle s r = NoCircle (drawing s)
-- 14 "no labelling exists"
Passes no_room s r = Drawable (drawing s)

-- "Given exactly when no earlier one is and" the test fails
abbrev pub Given : List Test → List ℕ → ℕ → ℕ → Type 0
Given [] s r n = n ≡ 0
Given (t ∷ ts) s r n = (¬ Passes t s r × (n ≡ number t)) ⊎ (Passes t s r × Given ts s r n)

abbrev pub faults : List Test
faults = mark ∷ version ∷ counts ∷ size ∷ unknown ∷ own ∷ outer ∷ order ∷ parted ∷ crossing ∷ mixing ∷ circle ∷ []

abbrev pub tests : List Test
tests = short ∷ faults ++ (no_room ∷ [])
