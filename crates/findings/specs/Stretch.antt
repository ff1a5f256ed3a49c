-- The tests that a part of the test runs, in order. Assumes nothing.
--   last_tests, past_tests       test 14; tests 11 to 14
use Rattle.std.specs.Prelude.{List, [], ◌∷◌, ◌++◌}
use Rattle.rules.specs.Tests.{Test, no_room}
use Rattle.survey.specs.Past.{later_tests}

abbrev pub last_tests : List Test
last_tests = no_room ∷ []

abbrev pub past_tests : List Test
past_tests = later_tests ++ last_tests
