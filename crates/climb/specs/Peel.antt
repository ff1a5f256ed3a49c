-- The worklist of test 13: events that no arrow enters are taken away, and with them the arrows that leave them. Assumes nothing.
--   toward g v d             1 if dart d leaves its event for v, else 0
--   comers g v               how many arrows enter v
--   between g u v            how many arrows run from u to v
--   Counted g left           left has the number of arrows that enter each event
--   Waiting left list t      the first t entries of list are the events with 0 in left, each once
--   Freed g c ..             what becomes of left, list and its end t where the arrow of dart c is taken away, if it leaves its event
--   Held g .. h t spent      the worklist: the arrows of its first h events are gone, and at each event v as many as spent v
--   Peeled g left list h t   the same where the arrows gone are all those of the first h events
use Rattle.std.specs.Prelude.{◌≡◌, List, ℕ, ◌+◌, ◌-◌, ◌*◌, ◌≤◌, ◌<◌, length, set}
use Rattle.finite.specs.Sums.{sum, δ, class}
use Rattle.finite.specs.Steps.{Inj}
use Rattle.drawing.specs.Drawing.{Drawing, darts, arrows, event, tail, head, twin, enters, leaves}
use Rattle.words.specs.Tables.{nth}

unfoldable pub toward : Drawing → ℕ → ℕ → ℕ
toward g v d = leaves d * δ (event g (twin d)) v

abbrev pub comers : Drawing → ℕ → ℕ
comers g v = sum (darts g) (toward g v)

abbrev pub between : Drawing → ℕ → ℕ → ℕ
between g u v = class (darts g) (event g) (toward g v) u

pub record Counted (g : Drawing) (left : List ℕ) : Type 0 where
  pub size : length left ≡ g.events
  pub each : (v : ℕ) → v < g.events → nth left v ≡ comers g v

pub record Waiting (left list : List ℕ) (t : ℕ) : Type 0 where
  pub room : length list ≡ length left
  pub inside : (i : ℕ) → i < t → nth list i < length left
  pub once : Inj t (nth list)
  pub gone : (i : ℕ) → i < t → nth left (nth list i) ≡ 0
  pub found : (v : ℕ) → v < length left → nth left v ≡ 0 → (i : ℕ) × (i < t) × (nth list i ≡ v)

-- what it asks: the arrow is counted, and there is room for its head
pub record Ready (g : Drawing) (c : ℕ) (left list : List ℕ) (t : ℕ) : Type 0 where
  pub inside : event g (c + 1) < length left
  pub counted : 0 < nth left (event g (c + 1))
  pub few : nth left (event g (c + 1)) < 65536
  pub room : nth left (event g (c + 1)) ≤ 1 → t < length list

-- the first t entries are the same
abbrev pub Same : List ℕ → ℕ → List ℕ → Type 0
Same list t list' = (length list' ≡ length list) × ((i : ℕ) → i < t → nth list' i ≡ nth list i)

pub data Freed (g : Drawing) (c : ℕ) (left list : List ℕ) (t : ℕ) : List ℕ → List ℕ → ℕ → Type 0 where
  entered : {list' : List ℕ} → enters c ≡ 1 → Same list t list' → Freed g c left list t left list' t
  fewer : {list' : List ℕ} → enters c ≡ 0 → 1 < nth left (event g (c + 1)) → Same list t list'
      → Freed g c left list t (set left (event g (c + 1)) (nth left (event g (c + 1)) - 1)) list' t
  last : enters c ≡ 0 → nth left (event g (c + 1)) ≤ 1
      → Freed g c left list t (set left (event g (c + 1)) (nth left (event g (c + 1)) - 1)) (set list t (event g (c + 1))) (t + 1)

pub record Held (g : Drawing) (left list : List ℕ) (h t : ℕ) (spent : ℕ → ℕ) : Type 0 where
  pub size : length left ≡ g.events
  pub seen : h ≤ t
  pub waiting : Waiting left list t
  -- the tails of the arrows into an event of the list stand before it
  pub order : (i a : ℕ) → i < t → a < arrows g → head g a ≡ nth list i → (j : ℕ) × (j < i) × (nth list j ≡ tail g a)
  pub counts : (v : ℕ) → v < g.events → nth left v + spent v ≡ comers g v

abbrev pub Peeled : Drawing → List ℕ → List ℕ → ℕ → ℕ → Type 0
Peeled g left list h t = Held g left list h t (λ v. sum h (λ i. between g (nth list i) v))

-- what becomes of the list where the event v is looked at
pub data Sourced (left list : List ℕ) (t v : ℕ) : List ℕ → ℕ → Type 0 where
  free : nth left v ≡ 0 → Sourced left list t v (set list t v) (t + 1)
  other : {list' : List ℕ} → 0 < nth left v → Same list t list' → Sourced left list t v list' t
