-- What the system's answers mean. Assumes nothing.
--   standard_input, standard_output    the two descriptors that the programs use
--   Moved n got                        what a call that is handed n bytes may answer: how many bytes it moved, at most n, or why it failed
--   Fitting at got                     at + got is a number of 64 bits, where the call did not fail
--   step_of at got                     what the answer got of a read means where at bytes had come
use Rattle.std.specs.Prelude.{ℕ, zero, suc, ◌+◌, ◌<◌, ◌≤◌, ◌^◌, ℤ, pos, Result, Ok, Err, IfOk}
use Rattle.std.specs.declared.ops.ControlFlow.{ControlFlow}
use Rattle.std.specs.declared.ops.ControlFlow.TheVariants.{Continue, Break}
use Rattle.std.specs.declared.io.Error.{Error}

abbrev pub standard_input : ℤ
standard_input = pos 0

abbrev pub standard_output : ℤ
standard_output = pos 1

abbrev pub Moved : {E : Type 0} → ℕ → Result ℕ E → Type 0
Moved n got = IfOk got (λ k. k ≤ n)

abbrev pub Fitting : {E : Type 0} → ℕ → Result ℕ E → Type 0
Fitting at got = IfOk got (λ k. at + k < 2 ^ 64)

-- "0 at the end of the input", the system's error where a read fails, else how many bytes came
abbrev pub step_of : ℕ → Result ℕ Error → ControlFlow (Result ℕ Error) ℕ
step_of at (Ok zero) = Break (Ok at)
step_of at (Ok (suc k)) = Continue (at + suc k)
step_of at (Err e) = Break (Err e)
