-- A drawing to place sources and sinks in, and partial placements. Assumes nothing.
--   Board g here      a drawing with one ring for each event; here has a key for the face of each corner
--   turn g c          the next corner of the face of corner c
--   Own g L           L has a corner of its own for each event that is placed, and for the others a number that is no corner
--   face_of here c     the key of corner c's face, and a number that is no key where c is no corner
--   load g here L f   how many events are placed in the face of key f
--   hold g here L s   what is placed in the face of key f, and the room left there
--   Valid g L s       a partial placement L, and the room s left in each face
--   Nobody g L        nobody is placed
--   All g here p r L  the events that p has 1 at are placed, the others are not, and no face holds more than its room
--   Crowd g here room S   a 0-1 set of events, larger than the room of the faces that it touches
use Rattle.std.specs.Prelude.{◌≡◌, ◌≢◌, ◌⊎◌, List, ℕ, ◌+◌, ◌*◌, ◌%◌, ◌≤◌, ◌<◌, length, get_or}
use Rattle.finite.specs.Sums.{sum, δ}
use Rattle.drawing.specs.Drawing.{Drawing, darts, event, after, twin, faces}
use Rattle.drawing.specs.Conditions.{EventsKnown, Rings}
use Rattle.words.specs.Tables.{nth}
use Rattle.chart.specs.Held.{Keyed}

pub record Board (g : Drawing) (here : List ℕ) : Type 0 where
  pub even : darts g % 2 ≡ 0
  pub rings : Rings g
  pub known : EventsKnown g
  pub keyed : Keyed g here

abbrev pub turn : Drawing → ℕ → ℕ
turn g c = twin (after g c)

abbrev pub Own : Drawing → List ℕ → Type 0
Own g L = (v : ℕ) → v < g.events → (darts g ≤ nth L v) ⊎ ((nth L v < darts g) × (event g (nth L v) ≡ v))

abbrev pub face_of : List ℕ → ℕ → ℕ
face_of here c = get_or here c (length here)

abbrev pub load : Drawing → List ℕ → List ℕ → ℕ → ℕ
load g here L f = sum g.events (λ v. δ (face_of here (nth L v)) f)

abbrev pub hold : Drawing → List ℕ → List ℕ → List ℕ → ℕ → ℕ
hold g here L s f = load g here L f + nth s f

pub record Valid (g : Drawing) (L s : List ℕ) : Type 0 where
  pub events : length L ≡ g.events
  pub keys : length s ≡ faces g
  pub own : Own g L

abbrev pub Nobody : Drawing → List ℕ → Type 0
Nobody g L = (v : ℕ) → v < g.events → darts g ≤ nth L v

pub record All (g : Drawing) (here : List ℕ) (poles room : ℕ → ℕ) (L : List ℕ) : Type 0 where
  pub own : Own g L
  pub each : (v : ℕ) → v < g.events → poles v ≡ 1 → nth L v < darts g
  pub none : (v : ℕ) → v < g.events → poles v ≢ 1 → darts g ≤ nth L v
  pub fits : (f : ℕ) → f < faces g → load g here L f ≤ room f

-- t is 1 at least at the keys of the faces that the set touches, and counts each of them once
pub record Crowd (g : Drawing) (here : List ℕ) (room S : ℕ → ℕ) : Type 0 where
  pub t : ℕ → ℕ
  pub touch : (c : ℕ) → c < darts g → S (event g c) ≤ t (nth here c)
  pub over : sum (faces g) (λ f. t f * room f) < sum g.events S
