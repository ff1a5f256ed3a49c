-- What the tables that the tests fill hold of a drawing. Assumes nothing.
--   number g f        the number of the face f: how many faces are below it
--   Keyed g here      here has a key for the face of each corner: the keys are below the number of faces, and two corners have one key exactly if they lie in one face
--   Switched g here spare   spare has the number of switch corners of each face, at the face's key, as far as it goes
--   Picked g first    first has a dart of each event that has one, and no dart for the others
--   Firsts g first    first has a dart of each event
--   Roomed g here spare   spare has the room of each face, at the face's key
--   Poled g poles     poles has 1 at the sources and sinks, 0 at the other events
use Rattle.std.specs.Prelude.{◌≡◌, ◌↔◌, List, ℕ, ◌+◌, ◌<◌, length}
use Rattle.finite.specs.Sums.{bit, sum, δ}
use Rattle.drawing.specs.Drawing.{Drawing, darts, event, face, faces, corner_face, switches, room1, pole}
use Rattle.words.specs.Tables.{nth}

abbrev pub number : Drawing → ℕ → ℕ
number g f = sum f (λ i. δ (face g i) i)

pub record Keyed (g : Drawing) (here : List ℕ) : Type 0 where
  pub size : length here ≡ darts g
  pub inside : (c : ℕ) → c < darts g → nth here c < faces g
  pub same : (c d : ℕ) → c < darts g → d < darts g → (corner_face g c ≡ corner_face g d) ↔ (nth here c ≡ nth here d)

pub record Switched (g : Drawing) (here spare : List ℕ) : Type 0 where
  pub each : (c : ℕ) → c < darts g → nth here c < length spare → nth spare (nth here c) ≡ switches g (corner_face g c)

pub record Picked (g : Drawing) (first : List ℕ) : Type 0 where
  pub size : length first ≡ g.events
  pub own : (v : ℕ) → v < g.events → nth first v < darts g → event g (nth first v) ≡ v
  pub each : (c : ℕ) → c < darts g → nth first (event g c) < darts g

pub record Firsts (g : Drawing) (first : List ℕ) : Type 0 where
  pub size : length first ≡ g.events
  pub inside : (v : ℕ) → v < g.events → nth first v < darts g
  pub each : (v : ℕ) → v < g.events → event g (nth first v) ≡ v

pub record Roomed (g : Drawing) (here spare : List ℕ) : Type 0 where
  pub size : length spare ≡ faces g
  pub each : (c : ℕ) → c < darts g → nth spare (nth here c) + 1 ≡ room1 g (corner_face g c)

pub record Poled (g : Drawing) (poles : List ℕ) : Type 0 where
  pub size : length poles ≡ g.events
  pub each : (v : ℕ) → v < g.events → nth poles v ≡ bit (pole g v)
