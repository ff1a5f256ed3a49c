-- A circle has no more arrows, and a cut no more events, than there are. Assumes nothing.
--   round_all       the arrows of a round are arrows
--   circle_few_lem      a circle has at most as many arrows as there are
--   cut_few         a cut has at most as many events as there are
use mathlib.Core.List.{List, [], ◌∷◌}
use Prim.Native.Nat.{ℕ, ◌≤◌, ◌<◌}
use lib.ListN.{length}
use Rattle.finite.specs.Lists.{All}
use Rattle.finite.proofs.Lists.{all_map, distinct_few, ascending_distinct}
use Rattle.drawing.specs.Drawing.{Drawing, arrows, tail, head}
use Rattle.drawing.specs.Conditions.{Runs, Round, Circle, Cut}

runs_all : (g : Drawing) (u : ℕ) (l : List ℕ) (v : ℕ) → Runs g u l v → All (λ a. a < arrows g) l
runs_all g u [] v r = tt
runs_all g u (a ∷ l) v r = (r.0, runs_all g (head g a) l v r.2)

pub round_all : (g : Drawing) (l : List ℕ) → Round g l → All (λ a. a < arrows g) l
round_all g [] r = absurd r
round_all g (a ∷ l) r = runs_all g (tail g a) (a ∷ l) (tail g a) r

pub circle_few_lem : (g : Drawing) (l : List ℕ) → Circle g l → length l ≤ arrows g
circle_few_lem g l C = distinct_few (arrows g) l C.distinct (round_all g l C.round)

pub cut_few : (g : Drawing) (l : List ℕ) → Cut g l → length l ≤ g.events
cut_few g l C = distinct_few g.events l (ascending_distinct l C.ascending) (all_map (λ v p. p.0) l C.poles)
