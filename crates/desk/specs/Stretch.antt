-- The tests that the desk runs on its tables, in order. Assumes nothing.
--   drawn_tests      tests 9 to 14
use Rattle.std.specs.Prelude.{List, ◌++◌}
use Rattle.rules.specs.Tests.{Test}
use Rattle.survey.specs.Past.{order_tests}
use Rattle.findings.specs.Stretch.{past_tests}

abbrev pub drawn_tests : List Test
drawn_tests = order_tests ++ past_tests
