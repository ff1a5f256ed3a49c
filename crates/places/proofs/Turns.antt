-- The events in turn, twice: all sit who can, then each who is left is searched for. Assumes nothing.
--   Going       the first pass at event e: the poles below w are placed, or those below e where nobody is left over, and nobody from e on
--   Searching   the second: the poles below e are placed, and nothing is listed between two searches
use mathlib.Core.Path.{◌≡◌}
use mathlib.Core.List.{List}
use Prim.Native.Nat.{ℕ, ◌≤◌, ◌<◌}
use native.Mathlib.Omega.{arith}
use lib.ListN.{length}
use Rattle.std.specs.Prelude.{Option, Some, None, unwrap_or}
use Rattle.drawing.specs.Drawing.{Drawing, darts, faces}
use Rattle.words.specs.Tables.{nth}
use Rattle.chart.specs.Held.{Firsts}
use Rattle.chart.proofs.Keys.{faces_few}
use Rattle.placing.specs.Board.{Board, hold}
use Rattle.placing.specs.Search.{Sofar}
use Rattle.placing.proofs.Settles.{settle_start, settle_poles, settle_crowd, all_as, crowd_as}
use Rattle.search.specs.Steps.{Fresh}
use Rattle.places.specs.declared.Outcome.{Outcome}
use Rattle.places.specs.declared.Outcome.TheVariants.{Skipped, Sat, LeftOver}
use Rattle.places.specs.Steps.{Begin, SeatedAll, Housed, Settled, Rest}

-- ---- the first pass

pub record Going (g : Drawing) (here poles first room L sp : List ℕ) (w : Option ℕ) (e : ℕ) : Type 0 where
  pub board : Board g here
  pub poled : length poles ≡ g.events
  pub firsts : Firsts g first
  pub few : (f : ℕ) → f < faces g → nth room f ≤ 6144
  pub sofar : Sofar g here (nth poles) (nth room) (unwrap_or w e) L sp
  pub later : (v : ℕ) → v < g.events → e ≤ v → darts g ≤ nth L v

pub going_start : {g : Drawing} {here poles first L sp : List ℕ} → Begin g here poles first L sp → Going g here poles first sp L sp None 0
going_start {poles = poles} {L = L} {sp} B = record {
  board = B.board;
  poled = B.poled;
  firsts = B.firsts;
  few = B.few;
  sofar = settle_start (nth poles) B.board L sp B.events B.keys B.nobody;
  later = λ v l k. B.nobody v l;
}

-- ---- the second

pub record Searching (g : Drawing) (here poles first : List ℕ) (room : ℕ → ℕ) (L sp rank via : List ℕ) (e : ℕ) : Type 0 where
  pub board : Board g here
  pub poled : length poles ≡ g.events
  pub firsts : Firsts g first
  pub few : (f : ℕ) → f < faces g → room f ≤ 6144
  pub sofar : Sofar g here (nth poles) room e L sp
  pub fresh : Fresh (faces g) rank via

module _ {g : Drawing} {here poles first : List ℕ} {room : ℕ → ℕ} {L sp rank via : List ℕ} {e : ℕ} (G : Searching g here poles first room L sp rank via e) (l : e < length poles) (L' sp' rank' via' : List ℕ) where
  pub searching_stuck : (r : Outcome) → Housed g here poles L sp e L' sp' rank' via' r → r ≡ LeftOver → Settled g here poles room L' rank' (Some e)
  searching_stuck Skipped p q = cc
  searching_stuck Sat p q = cc
  searching_stuck LeftOver p q = rw p.1 (record {
    events = G.sofar.valid.events;
    ranks = p.3;
    ends = record {
      inside = omega (arith, G.poled);
      crowd = settle_crowd G.sofar p.4;
      of_poles = λ v k m. settle_poles G.sofar p.0 rank' G.board (omega (arith, p.3, faces_few g)) v k m;
    };
  })

-- ---- both

module _ {g : Drawing} {here L sp : List ℕ} {w : ℕ} (poles sp₀ : List ℕ) (S : SeatedAll g here poles (nth sp₀) L sp (Some w)) where
  -- the rooms before anyone sits are what the faces hold behind
  pub rest_as : {L' list : List ℕ} (r : Option ℕ) → Rest g here poles (hold g here L sp) L' list r → Rest g here poles (nth sp₀) L' list r
  rest_as None R = record { events = R.events; ends = all_as R.ends S.total }
  rest_as (Some k) R = record {
    events = R.events;
    ends = record { set = R.ends.set; bits = R.ends.bits; crowd = crowd_as R.ends.crowd S.total; of_poles = R.ends.of_poles; listed = R.ends.listed };
  }
