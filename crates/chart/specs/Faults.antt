-- The number of a fault of a chart's file, and of an answer that is a fault or none. Assumes nothing.
use Rattle.std.specs.Prelude.{ℕ, Result, Ok, Err}
use Rattle.chart.specs.declared.Fault.{Fault}
use Rattle.chart.specs.declared.Fault.TheVariants.{Mark, Version, Counts, Length, UnknownEvent, OwnArrow, OuterDart}

-- the number of the test that fails
abbrev pub fault_number : Fault → ℕ
fault_number Mark = 2
fault_number Version = 3
fault_number Counts = 4
fault_number Length = 5
fault_number UnknownEvent = 6
fault_number OwnArrow = 7
fault_number OuterDart = 8

-- the number given: 0 where no test fails
abbrev pub given : {A : Type 0} → Result A Fault → ℕ
given (Ok _) = 0
given (Err f) = fault_number f
