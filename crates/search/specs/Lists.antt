-- What the steps of a search ask and answer, over the list of faces. Assumes nothing.
--   Ready s l          the list l holds faces of the chart that s seats
--   Same l l'          the tables of l' are those of l
--   Begins s l first   a search for a place of the event of corner first: it has none, and the list is empty
--   Answer s first l r the list ends with no place for the event; or with the face at a place of the list, which has room
use Rattle.std.specs.Prelude.{◌≡◌, ℕ, ◌+◌, length, ⊤}
use Rattle.std.specs.declared.ops.ControlFlow.{ControlFlow}
use Rattle.std.specs.ControlFlow.{MatchControlFlow}
use Rattle.drawing.specs.Drawing.{event, faces}
use Rattle.chart.specs.Charts.{drawn}
use Rattle.placing.specs.Board.{Board, hold, Valid, Crowd}
use Rattle.placing.specs.Search.{Held, Way, member}
use Rattle.search.specs.Steps.{Asks}
use Rattle.search.specs.declared.Seating.{Seating}
use Rattle.search.specs.declared.FaceList.{FaceList}

pub record Ready (s : Seating) (l : FaceList) : Type 0 where
  pub board : Board (drawn s.chart) s.here.now
  pub valid : Valid (drawn s.chart) s.large.now s.spare.now
  pub held : Held s.here.now l.rank.now l.via.now l.end
  pub ranks : length l.rank.now ≡ faces (drawn s.chart)

abbrev pub Same : FaceList → FaceList → Type 0
Same l l' = (l'.rank.ghost_name ≡ l.rank.ghost_name) × (l'.via.ghost_name ≡ l.via.ghost_name)

pub record Begins (s : Seating) (l : FaceList) (first : ℕ) : Type 0 where
  pub asks : Asks (drawn s.chart) s.here.now s.large.now s.spare.now l.rank.now l.via.now (event (drawn s.chart) first) first
  pub start : l.end ≡ 0

pub record Answer (s : Seating) (first : ℕ) (l : FaceList) (r : ControlFlow ℕ ⊤) : Type 0 where
  pub held : Held s.here.now l.rank.now l.via.now l.end
  pub ranks : length l.rank.now ≡ faces (drawn s.chart)
  pub stop : MatchControlFlow r
      (λ _. Crowd (drawn s.chart) s.here.now (hold (drawn s.chart) s.here.now s.large.now s.spare.now) (member s.here.now s.large.now l.rank.now (event (drawn s.chart) first)))
      (λ at. Way (drawn s.chart) s.here.now s.large.now s.spare.now (event (drawn s.chart) first) l.rank.now l.via.now at × (at + 1 ≡ l.end))
