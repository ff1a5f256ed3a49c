-- What the face walk has written so far, in a table with an entry for each corner. Assumes nothing.
--   Below g d here spare    the corners of the faces below d have the number of their face, the other corners none; spare has their switch corners
--   Looked g d x here spare the same, where the rings hold and d is a dart; x faces are below d
--   Paintable g d x here    d is the lowest dart of its face, the rings hold, and here has an entry for each corner
--   Painted g d x old new   new is old with x at the corners of the face d
use Rattle.std.specs.Prelude.{◌≡◌, ◌≢◌, List, ℕ, ◌≤◌, ◌<◌, length}
use Rattle.drawing.specs.Drawing.{Drawing, darts, face, corner_face, switches}
use Rattle.drawing.specs.Conditions.{Rings}
use Rattle.words.specs.Tables.{nth}
use Rattle.chart.specs.Held.{number}

pub record Below (g : Drawing) (d : ℕ) (here spare : List ℕ) : Type 0 where
  pub size : length here ≡ darts g
  pub done : (c : ℕ) → c < darts g → corner_face g c < d → nth here c ≡ number g (corner_face g c)
  pub left : (c : ℕ) → c < darts g → d ≤ corner_face g c → nth here c ≡ 65535
  pub counts : (c : ℕ) → c < darts g → corner_face g c < d → nth here c < length spare → nth spare (nth here c) ≡ switches g (corner_face g c)

pub record Looked (g : Drawing) (d x : ℕ) (here spare : List ℕ) : Type 0 where
  pub rings : Rings g
  pub dart : d < darts g
  pub below : Below g d here spare
  pub key : x ≡ number g d

pub record Paintable (g : Drawing) (d x : ℕ) (here : List ℕ) : Type 0 where
  pub rings : Rings g
  pub size : length here ≡ darts g
  pub dart : d < darts g
  pub name : face g d ≡ d
  pub small : x < 65536

pub record Painted (g : Drawing) (d x : ℕ) (old new : List ℕ) : Type 0 where
  pub size : length new ≡ length old
  pub inside : (c : ℕ) → c < darts g → corner_face g c ≡ d → nth new c ≡ x
  pub others : (c : ℕ) → c < darts g → corner_face g c ≢ d → nth new c ≡ nth old c
