-- What the two passes over the events ask and answer, and the labels. Assumes nothing.
--   Ranks               a rank for each key
--   Turn, Seated        an event's turn to sit: it is no pole, it is placed, or it is left over
--   Begin, SeatedAll    the tables before the first pass: nobody is placed; behind it: all poles are placed, or those before the first that is left over
--   Late, Housed        an event's turn when all sit who can: it is no pole or has its place, it is placed, or it has no place
--   Left, Settled       all events from w on: all poles are placed, or Stuck: a crowd of poles with the first that has no place
--   Crowded, Rest       the same, with the crowd as a list
--   label_of, Labels    the label of each corner; Plains before anyone's place is marked, Raised where those of the events below v are
use Rattle.std.specs.Prelude.{◌≡◌, ◌≢◌, ◌⊎◌, List, ℕ, ◌+◌, ◌*◌, ◌≤◌, ◌<◌, length, Option, MatchOption, unwrap_or}
use Rattle.finite.specs.Sums.{δ}
use Rattle.drawing.specs.Drawing.{Drawing, darts, event, faces, plain}
use Rattle.words.specs.Tables.{nth}
use Rattle.chart.specs.Held.{Firsts}
use Rattle.placing.specs.Board.{Board, hold, Valid, Nobody, All, Crowd}
use Rattle.placing.specs.Search.{member, Placed, Sofar, Listing}
use Rattle.search.specs.Steps.{Fresh, Few}
use Rattle.places.specs.declared.Outcome.{Outcome}
use Rattle.places.specs.declared.Outcome.TheVariants.{Skipped, Sat, LeftOver}

-- rank has an entry for each key
pub record Ranks (here rank : List ℕ) : Type 0 where
  pub size : length rank ≤ length here
  pub into : (c : ℕ) → c < length here → nth here c < length rank

-- ---- the first pass

pub record Turn (g : Drawing) (here poles first L sp : List ℕ) (e : ℕ) : Type 0 where
  pub board : Board g here
  pub valid : Valid g L sp
  pub few : Few g here L sp
  pub poled : length poles ≡ g.events
  pub firsts : Firsts g first
  pub inside : e < g.events
  pub free : darts g ≤ nth L e

abbrev pub Seated : Drawing → List ℕ → List ℕ → List ℕ → List ℕ → ℕ → List ℕ → List ℕ → Outcome → Type 0
Seated g here poles L sp e L' sp' Skipped = (nth poles e ≢ 1) × (L' ≡ L) × (sp' ≡ sp)
Seated g here poles L sp e L' sp' Sat = (nth poles e ≡ 1) × Placed g here L sp e L' sp'
Seated g here poles L sp e L' sp' LeftOver = (L' ≡ L) × (sp' ≡ sp)

pub record Begin (g : Drawing) (here poles first L sp : List ℕ) : Type 0 where
  pub board : Board g here
  pub poled : length poles ≡ g.events
  pub firsts : Firsts g first
  pub events : length L ≡ g.events
  pub nobody : Nobody g L
  pub keys : length sp ≡ faces g
  pub at_most : faces g ≤ 3072
  pub few : (f : ℕ) → f < faces g → nth sp f ≤ 6144

abbrev pub SeatedAll : Drawing → List ℕ → List ℕ → (ℕ → ℕ) → List ℕ → List ℕ → Option ℕ → Type 0
SeatedAll g here poles room L sp r = Sofar g here (nth poles) room (unwrap_or r g.events) L sp

-- ---- the second

pub record Late (g : Drawing) (here poles first L sp rank via : List ℕ) (e : ℕ) : Type 0 where
  pub board : Board g here
  pub valid : Valid g L sp
  pub few : Few g here L sp
  pub poled : length poles ≡ g.events
  pub firsts : Firsts g first
  pub fresh : Fresh (faces g) rank via
  pub inside : e < g.events

abbrev pub Housed : Drawing → List ℕ → List ℕ → List ℕ → List ℕ → ℕ → List ℕ → List ℕ → List ℕ → List ℕ → Outcome → Type 0
Housed g here poles L sp e L' sp' rank' via' Skipped = ((nth poles e ≢ 1) ⊎ (nth L e < darts g)) × (L' ≡ L) × (sp' ≡ sp) × Fresh (faces g) rank' via'
Housed g here poles L sp e L' sp' rank' via' Sat = (nth poles e ≡ 1) × Placed g here L sp e L' sp' × Fresh (faces g) rank' via'
Housed g here poles L sp e L' sp' rank' via' LeftOver =
    (nth poles e ≡ 1) × (L' ≡ L) × (sp' ≡ sp) × (length rank' ≡ faces g) × Crowd g here (hold g here L sp) (member here L rank' e)

pub record Left (g : Drawing) (here poles first L sp : List ℕ) (w : ℕ) : Type 0 where
  pub board : Board g here
  pub poled : length poles ≡ g.events
  pub firsts : Firsts g first
  pub keys : faces g ≤ 3072
  pub few : Few g here L sp
  pub sofar : Sofar g here (nth poles) (hold g here L sp) w L sp

pub record Stuck (g : Drawing) (here poles : List ℕ) (room : ℕ → ℕ) (L rank : List ℕ) (u : ℕ) : Type 0 where
  pub inside : u < g.events
  pub crowd : Crowd g here room (member here L rank u)
  pub of_poles : (v : ℕ) → v < g.events → 1 ≤ member here L rank u v → nth poles v ≡ 1

pub record Settled (g : Drawing) (here poles : List ℕ) (room : ℕ → ℕ) (L rank : List ℕ) (r : Option ℕ) : Type 0 where
  pub events : length L ≡ g.events
  pub ranks : length rank ≡ faces g
  pub ends : MatchOption r (All g here (nth poles) room L) (Stuck g here poles room L rank)

-- the first k entries of the list are a crowd of poles
pub record Crowded (g : Drawing) (here poles : List ℕ) (room : ℕ → ℕ) (list : List ℕ) (k : ℕ) : Type 0 where
  pub set : ℕ → ℕ
  pub bits : (v : ℕ) → v < g.events → set v ≤ 1
  pub crowd : Crowd g here room set
  pub of_poles : (v : ℕ) → v < g.events → 1 ≤ set v → nth poles v ≡ 1
  pub listed : Listing g.events set list k

pub record Rest (g : Drawing) (here poles : List ℕ) (room : ℕ → ℕ) (L list : List ℕ) (r : Option ℕ) : Type 0 where
  pub events : length L ≡ g.events
  pub ends : MatchOption r (All g here (nth poles) room L) (Crowded g here poles room list)

-- ---- the labels

-- 2 more where the corner is its event's place, 1 more where it is plain
abbrev pub label_of : Drawing → List ℕ → ℕ → ℕ
label_of g L c = 2 * δ (nth L (event g c)) c + plain g c

-- before anyone is placed
pub record Plains (g : Drawing) (out : List ℕ) : Type 0 where
  pub size : length out ≡ darts g
  pub each : (c : ℕ) → c < darts g → nth out c ≡ plain g c

-- the events below v have their places marked
pub record Raised (g : Drawing) (L out : List ℕ) (v : ℕ) : Type 0 where
  pub size : length out ≡ darts g
  pub done : (c : ℕ) → c < darts g → event g c < v → nth out c ≡ label_of g L c
  pub left : (c : ℕ) → c < darts g → v ≤ event g c → nth out c ≡ plain g c

pub record Labels (g : Drawing) (L out : List ℕ) : Type 0 where
  pub size : length out ≡ darts g
  pub each : (c : ℕ) → c < darts g → nth out c ≡ label_of g L c
