-- The tests 9 to 13, and what they leave. Assumes nothing.
--   order_tests, face_tests, climb_tests   tests 9 and 10, test 11, and tests 12 and 13
--   later_tests, survey_tests      tests 11 to 13, and tests 9 to 13
--   Formed g                     the chart of the drawing g is past test 8
--   Unused g n here first list   here and first have 65535 for each of n corners and for each event, and list an entry for each event
--   Past g                       the chart is past test 11
--   Clear g                      the chart is past test 13
--   Walked g here spare          what test 11 leaves: a key for the face of each corner, and the switch corners of each face
--   Evident g f list             the first entries of list are the evidence of the fault f, if it has some
use Rattle.std.specs.Prelude.{◌≡◌, List, [], ◌∷◌, ◌++◌, ℕ, ◌≤◌, length, take, replicate}
use Rattle.drawing.specs.Drawing.{Drawing}
use Rattle.drawing.specs.Conditions.{EventsKnown, NoOwnArrow, OuterKnown, Rings, Joined, Planar, NoneMixed, NoCircle}
use Rattle.rules.specs.Tests.{Test, order, parted, crossing, mixing, circle}
use Rattle.rules.specs.Report.{Entries}
use Rattle.chart.specs.Held.{Keyed, Switched}
use Rattle.survey.specs.declared.Fault.{Fault}
use Rattle.survey.specs.Faults.{fault_number, fault_entries}

abbrev pub order_tests : List Test
order_tests = order ∷ parted ∷ []

abbrev pub face_tests : List Test
face_tests = crossing ∷ []

abbrev pub climb_tests : List Test
climb_tests = mixing ∷ circle ∷ []

abbrev pub later_tests : List Test
later_tests = face_tests ++ climb_tests

abbrev pub survey_tests : List Test
survey_tests = order_tests ++ later_tests

pub record Formed (g : Drawing) : Type 0 where
  pub known : EventsKnown g
  pub own : NoOwnArrow g
  pub outer : OuterKnown g

-- the tables as the survey wants them lent
pub record Unused (g : Drawing) (n : ℕ) (here first list : List ℕ) : Type 0 where
  pub corners : here ≡ replicate n 65535
  pub events : first ≡ replicate g.events 65535
  pub room : length list ≡ g.events

pub record Past (g : Drawing) : Type 0 where
  pub rings : Rings g
  pub joined : Joined g
  pub planar : Planar g

-- the chart is past test 13
pub record Clear (g : Drawing) : Type 0 where
  pub formed : Formed g
  pub past : Past g
  pub unmixed : NoneMixed g
  pub free : NoCircle g

-- test 11
pub record Walked (g : Drawing) (here spare : List ℕ) : Type 0 where
  pub keyed : Keyed g here
  pub switched : Switched g here spare

-- tests 12 and 13
abbrev pub Evident : Drawing → Fault → List ℕ → Type 0
Evident g f list = 12 ≤ fault_number f → (fault_entries f ≤ length list) × Entries g (fault_number f) (take (fault_entries f) list)
