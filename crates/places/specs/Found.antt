-- What the search for places asks of its tables, and what it answers. Assumes nothing.
--   Ready g here poles first spare      the tables of a drawing past test 13: a key for the face of each corner, the sources and sinks, a dart of each event,
--                                       the room of each key; the rooms total the sources and sinks
--   Found g labels₀ labels list r       none, and a labelling; or so many events of a cut, and the labels as they were
use Rattle.std.specs.Prelude.{◌≡◌, List, ℕ, ◌≤◌, length, take, Option, MatchOption}
use Rattle.finite.specs.Sums.{sum}
use Rattle.drawing.specs.Drawing.{Drawing, faces}
use Rattle.drawing.specs.Conditions.{EventsKnown, OuterKnown, Rings, Labelling, Cut}
use Rattle.words.specs.Tables.{nth}
use Rattle.chart.specs.Held.{Keyed, Firsts, Roomed, Poled}

pub record Ready (g : Drawing) (here poles first spare : List ℕ) : Type 0 where
  pub rings : Rings g
  pub known : EventsKnown g
  pub outer : OuterKnown g
  pub keyed : Keyed g here
  pub poled : Poled g poles
  pub firsts : Firsts g first
  pub few : faces g ≤ 3072
  pub roomed : Roomed g here spare
  pub total : sum (faces g) (nth spare) ≡ sum g.events (nth poles)

abbrev pub Found : Drawing → List ℕ → List ℕ → List ℕ → Option ℕ → Type 0
Found g labels₀ labels list r = MatchOption r (Labelling g labels) (λ k. (k ≤ length list) × Cut g (take k list) × (labels ≡ labels₀))
