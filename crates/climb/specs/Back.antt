-- Going back among the events that no worklist takes away. Assumes nothing.
--   Kept g left                  each event with arrows left has one from an event with arrows left; and there is such an event
--   Entering g left into a ..    what becomes of the table into and the event last where arrow a is looked at
--   Chosen g left into e         into has for each event with arrows left such an arrow; and e has arrows left
--   Lower into a b r             r is one of the events a and b, and has the lower arrow in into
--   Written g into s out         out has the arrows of the way back from s, the one that enters s first
use Rattle.std.specs.Prelude.{◌≡◌, ◌⊎◌, List, ℕ, ◌-◌, ◌≤◌, ◌<◌, length, set}
use Rattle.drawing.specs.Drawing.{Drawing, arrows, tail, head}
use Rattle.drawing.proofs.Climb.{back, before, Enters}
use Rattle.words.specs.Tables.{nth}

pub record Kept (g : Drawing) (left : List ℕ) : Type 0 where
  pub size : length left ≡ g.events
  pub some : (v : ℕ) × (v < g.events) × (0 < nth left v)
  pub each : (v : ℕ) → v < g.events → 0 < nth left v → (a : ℕ) × (a < arrows g) × ((head g a ≡ v) × (0 < nth left (tail g a)))

pub data Entering (g : Drawing) (left into : List ℕ) (a e : ℕ) : List ℕ → ℕ → Type 0 where
  live : 0 < nth left (tail g a) → 0 < nth left (head g a) → Entering g left into a e (set into (head g a) a) (head g a)
  dead : (0 < nth left (tail g a) → 0 < nth left (head g a) → ⊥) → Entering g left into a e into e

pub record Chosen (g : Drawing) (left into : List ℕ) (e : ℕ) : Type 0 where
  pub size : length into ≡ g.events
  pub here : (e < g.events) × (0 < nth left e)
  pub each : (v : ℕ) → v < g.events → 0 < nth left v → Enters g (nth into) v × (0 < nth left (back g (nth into) v))

pub record Lower (into : List ℕ) (a b r : ℕ) : Type 0 where
  pub one : (r ≡ a) ⊎ (r ≡ b)
  pub first : nth into r ≤ nth into a
  pub second : nth into r ≤ nth into b

abbrev pub Written : Drawing → List ℕ → ℕ → List ℕ → Type 0
Written g into s out = (i : ℕ) → i < length out → nth out i ≡ nth into (before g (nth into) s (length out - i))
