-- What a drawing past the tests up to a number satisfies, in document 01's words. Assumes nothing.
--   Uncrossed g, uncrossed_tests     past test 11; the tests 2 to 11
--   Unmixed g, unmixed_tests         past test 12; the tests 2 to 12
--   Uncircled g                      past test 13; the tests 2 to 13 are the `faults` of rules
use Rattle.std.specs.Prelude.{◌≡◌, List, [], ◌∷◌, ◌++◌, ◌%◌}
use Rattle.drawing.specs.Drawing.{Drawing, darts}
use Rattle.drawing.specs.Conditions.{EventsKnown, NoOwnArrow, OuterKnown, Rings, Joined, Planar, NoneMixed, NoCircle}
use Rattle.rules.specs.Tests.{Test, mark, version, counts, size, unknown, own, outer, order, parted, crossing, mixing}

pub record Uncrossed (g : Drawing) : Type 0 where
  -- two darts for each arrow
  pub even : darts g % 2 ≡ 0
  pub known : EventsKnown g
  pub own : NoOwnArrow g
  pub outer : OuterKnown g
  pub rings : Rings g
  pub joined : Joined g
  pub planar : Planar g

pub record Unmixed (g : Drawing) : Type 0 where
  pub uncrossed : Uncrossed g
  pub unmixed : NoneMixed g

pub record Uncircled (g : Drawing) : Type 0 where
  pub unmixed : Unmixed g
  pub free : NoCircle g

abbrev pub uncrossed_tests : List Test
uncrossed_tests = mark ∷ version ∷ counts ∷ size ∷ unknown ∷ own ∷ outer ∷ order ∷ parted ∷ crossing ∷ []

abbrev pub unmixed_tests : List Test
unmixed_tests = uncrossed_tests ++ (mixing ∷ [])
