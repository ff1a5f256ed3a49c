-- What the steps of a search and its moves ask and answer. Assumes nothing.
--   Fresh n rank via   the two tables of a search that has not begun, with n entries each
--   Near               a corner of an event whose face has room
--   Asks               a search for a place of the event u, from its corner first: u has none, and nothing is listed
--   Few                what is placed in a face and its room left are 6,144 at most
--   Sits               an event that has no place, and a corner of it whose face has room
--   Shifts             the moves along the way that a search found
--   Seeks, Sought      a place for the event u of corner first: it is placed, or it has none
use Rattle.std.specs.Prelude.{◌≡◌, List, ℕ, Bool, MatchBool, ◌≤◌, ◌<◌, length}
use Rattle.drawing.specs.Drawing.{Drawing, darts, event, faces}
use Rattle.words.specs.Tables.{nth}
use Rattle.placing.specs.Board.{Board, hold, Valid, Crowd}
use Rattle.placing.specs.Search.{Blank, Way, member, Placed}

-- the two tables of a search that has not begun
pub record Fresh (n : ℕ) (rank via : List ℕ) : Type 0 where
  pub ranks : length rank ≡ n
  pub vias : length via ≡ n
  pub blank : Blank rank

-- c is a corner of the event of corner first, and its face has room
pub record Near (g : Drawing) (here sp : List ℕ) (first c : ℕ) : Type 0 where
  pub inside : c < darts g
  pub own : event g c ≡ event g first
  pub room : 1 ≤ nth sp (nth here c)

pub record Asks (g : Drawing) (here L sp rank via : List ℕ) (u first : ℕ) : Type 0 where
  pub board : Board g here
  pub valid : Valid g L sp
  pub fresh : Fresh (faces g) rank via
  pub inside : first < darts g
  pub own : event g first ≡ u
  pub free : darts g ≤ nth L u

abbrev pub Few : Drawing → List ℕ → List ℕ → List ℕ → Type 0
Few g here L sp = (f : ℕ) → f < faces g → hold g here L sp f ≤ 6144

pub record Sits (g : Drawing) (here L sp : List ℕ) (e c : ℕ) : Type 0 where
  pub board : Board g here
  pub valid : Valid g L sp
  pub few : Few g here L sp
  pub inside : c < darts g
  pub own : event g c ≡ e
  pub room : 1 ≤ nth sp (nth here c)
  pub free : darts g ≤ nth L e

-- the place i of the list has room, and from it the way back to u stands
pub record Shifts (g : Drawing) (here rank via L sp : List ℕ) (u i : ℕ) : Type 0 where
  pub board : Board g here
  pub valid : Valid g L sp
  pub few : Few g here L sp
  pub way : Way g here L sp u rank via i
  pub free : darts g ≤ nth L u

pub record Seeks (g : Drawing) (here L sp rank via : List ℕ) (u first : ℕ) : Type 0 where
  pub asks : Asks g here L sp rank via u first
  pub few : Few g here L sp

-- r says whether u is placed
pub record Sought (g : Drawing) (here L sp : List ℕ) (u : ℕ) (L' sp' rank' via' : List ℕ) (r : Bool) : Type 0 where
  pub ranks : length rank' ≡ faces g
  pub answer : MatchBool r
      (Placed g here L sp u L' sp' × Fresh (faces g) rank' via')
      ((L' ≡ L) × (sp' ≡ sp) × Crowd g here (hold g here L sp) (member here L rank' u))
