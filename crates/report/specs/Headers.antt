-- The report's header, in the reader's answer and in the writer's bytes (document 01, "The report"). Assumes nothing.
--   formed a                     what the reader's answer a says
--   body_place p s               where the body of the report s starts, if s starts at p (a block of memory, and a byte in it)
--   header n c                   the eight bytes of the header with the result n and the count c
--   Listed report n list         the numbers of list can be written as the entries of the result n
use Rattle.std.specs.Prelude.{Option, Some, None, List, [], ◌∷◌, ℕ, ◌+◌, ◌*◌, ◌/◌, ◌%◌, ◌<◌, ◌≤◌, length}
use Rattle.rules.specs.Report.{Form, good, bad, body_start}
use Rattle.report.specs.declared.Header.{Header}

-- "One call answers with the result and the count, or says bad form"
abbrev pub formed : Option Header → Form
formed (Some h) = good h.result h.count
formed None = bad

-- "hands back the body of the report as that stretch of the caller's bytes, or the empty stretch at its start on bad form": where it starts, from where the caller's start
abbrev pub body_place : ℕ × ℕ → List ℕ → ℕ × ℕ
body_place p s = (p.0, p.1 + body_start s)

-- "Bytes 0-2 `EVR`, 3-4 version 1, 5 result, 6-7 count"
abbrev pub header : ℕ → ℕ → List ℕ
header result count = 69 ∷ 86 ∷ 82 ∷ 1 ∷ 0 ∷ result ∷ count % 256 ∷ count / 256 ∷ []

pub record Listed (report : List ℕ) (result : ℕ) (list : List ℕ) : Type 0 where
  pub low : 12 ≤ result
  pub high : result ≤ 14
  pub small : length list < 65536
  pub fits : 8 + 2 * length list ≤ length report
