-- What the table of sources and sinks holds on the way. Assumes nothing.
--   flags a b             of an event with a leaving and b entering arrows: 1 if some leaves, 2 if some enters, 3 if both, 0 if none
--   Pole x r              r is 1 if the flags x are those of a source or a sink, else 0
--   Flagged g a b poles   each event has the flags of the arrows that leave it by a dart below a and enter it by one below b
--   Decided v old new     the entries below v are 1 where they had the flags of a source or a sink, else 0; the others are as they were
use Rattle.std.specs.Prelude.{◌≡◌, ◌||◌, List, ℕ, ◌+◌, ◌*◌, ◌<◌, ◌≤◌, min, eqb, length}
use Rattle.finite.specs.Sums.{bit, class}
use Rattle.drawing.specs.Drawing.{Drawing, event, enters, leaves}
use Rattle.words.specs.Tables.{nth}

unfoldable pub flags : ℕ → ℕ → ℕ
flags a b = min 1 a + 2 * min 1 b

unfoldable pub Pole : ℕ → ℕ → Type 0
Pole x r = (a b : ℕ) → x ≡ flags a b → r ≡ bit (eqb b 0 || eqb a 0)

pub record Flagged (g : Drawing) (a b : ℕ) (poles : List ℕ) : Type 0 where
  pub size : length poles ≡ g.events
  pub each : (v : ℕ) → v < g.events → nth poles v ≡ flags (class a (event g) leaves v) (class b (event g) enters v)

pub record Decided (v : ℕ) (old new : List ℕ) : Type 0 where
  pub size : length new ≡ length old
  pub done : (u : ℕ) → u < v → Pole (nth old u) (nth new u)
  pub rest : (u : ℕ) → v ≤ u → nth new u ≡ nth old u
