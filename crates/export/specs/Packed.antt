-- The answers of the entries as numbers, for callers in C and Rust. Assumes nothing.
--   Tested s r x r'       x is number * 65536 + bytes written, of a run of the test
--   pack_form f           result * 65536 + count, or 4294967295 for bad form
--   pack_body r           start * 4294967296 + length of the body of the report r
--   pack_verdict v        0 to 4 for J0 to J4, 65536 + n for the chart's refusal n
use Rattle.std.specs.Prelude.{◌≡◌, List, ℕ, ◌+◌, ◌*◌, length}
use Rattle.rules.specs.Report.{Form, good, bad, Outcome, body_start, body}
use Rattle.rules.specs.Judge.{Verdict, chart, J, Judged}

pub record Tested (s r : List ℕ) (x : ℕ) (r' : List ℕ) : Type 0 where
  pub number : ℕ
  pub written : ℕ
  pub packed : x ≡ number * 65536 + written
  pub outcome : Outcome s r number written r'

abbrev pub pack_form : Form → ℕ
pack_form (good result count) = result * 65536 + count
pack_form bad = 4294967295

abbrev pub pack_body : List ℕ → ℕ
pack_body r = body_start r * 4294967296 + length (body r)

abbrev pub pack_verdict : Verdict → ℕ
pack_verdict (chart n) = 65536 + n
pack_verdict (J j) = j

pub record Weighed (s r : List ℕ) (x : ℕ) : Type 0 where
  pub verdict : Verdict
  pub packed : x ≡ pack_verdict verdict
  pub judged : Judged s r verdict
