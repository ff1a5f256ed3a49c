-- What the tests 2 to 5 leave of a chart: its two tables stand whole in its bytes. Assumes nothing.
use Rattle.std.specs.Prelude.{◌≡◌, List, ℕ, ◌+◌, ◌*◌, ◌%◌, ◌≤◌, length}
use Rattle.drawing.specs.Drawing.{darts}
use Rattle.rules.specs.Chart.{drawing}

-- the chart s has n darts, and the numbers of events and darts are within their limits
pub record Shape (s : List ℕ) (n : ℕ) : Type 0 where
  pub darts : n ≡ darts (drawing s)
  pub even : n % 2 ≡ 0
  pub some : 2 ≤ n
  pub few : n ≤ 6144
  pub size : length s ≡ 11 + 4 * n
  pub events : (2 ≤ (drawing s).events) × ((drawing s).events ≤ 1024)
