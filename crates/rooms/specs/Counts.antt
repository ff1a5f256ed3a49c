-- What the table of rooms holds on the way. Assumes nothing.
--   Halved f old new           the entries below f are half of what they were, less one; the others are as they were
use Rattle.std.specs.Prelude.{◌≡◌, List, ℕ, ◌-◌, ◌/◌, ◌≤◌, ◌<◌, length}
use Rattle.words.specs.Tables.{nth}

pub record Halved (f : ℕ) (old new : List ℕ) : Type 0 where
  pub size : length new ≡ length old
  pub done : (j : ℕ) → j < f → nth new j ≡ nth old j / 2 - 1
  pub rest : (j : ℕ) → f ≤ j → nth new j ≡ nth old j
