-- The number of a fault of a drawing, and of an answer that is a fault or none. Assumes nothing.
--   fault_number       the number of the test that fails
--   fault_entries      how many entries its evidence has
--   given              the number given: 0 where no test fails
use Rattle.std.specs.Prelude.{ℕ, Result, Ok, Err}
use Rattle.survey.specs.declared.Fault.{Fault}
use Rattle.survey.specs.declared.Fault.TheVariants.{Order, Parted, Crossing, Mixed, Circle}

abbrev pub fault_number : Fault → ℕ
fault_number Order = 9
fault_number Parted = 10
fault_number Crossing = 11
fault_number Mixed = 12
fault_number (Circle k) = 13

abbrev pub fault_entries : Fault → ℕ
fault_entries Order = 0
fault_entries Parted = 0
fault_entries Crossing = 0
fault_entries Mixed = 1
fault_entries (Circle k) = k

abbrev pub given : {A : Type 0} → Result A Fault → ℕ
given (Ok _) = 0
given (Err f) = fault_number f
