-- What the judge's check of a cut starts from. Assumes nothing.
--   Corners g here               the drawing passed the tests 6 to 9, and the table here has a key for the face of each corner
--   Tables g here poles spare    besides, there are the table of the sources and sinks and that of the rooms
--   Sized g here poles spare     besides, there are tables of an entry for each event and each key
use Rattle.std.specs.Prelude.{◌≡◌, List, ℕ, length}
use Rattle.drawing.specs.Drawing.{Drawing, faces}
use Rattle.drawing.specs.Conditions.{EventsKnown, Rings}
use Rattle.chart.specs.Held.{Keyed, Poled, Roomed}

pub record Corners (g : Drawing) (here : List ℕ) : Type 0 where
  pub known : EventsKnown g
  pub rings : Rings g
  pub keyed : Keyed g here

pub record Tables (g : Drawing) (here poles spare : List ℕ) : Type 0 where
  pub corners : Corners g here
  pub poled : Poled g poles
  pub roomed : Roomed g here spare

pub record Sized (g : Drawing) (here poles spare : List ℕ) : Type 0 where
  pub corners : Corners g here
  pub events : length poles ≡ g.events
  pub keys : length spare ≡ faces g
