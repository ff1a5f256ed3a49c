-- What the worklist that joins events holds. An event is marked if its entry of `first` is not 65535. Assumes nothing.
--   Ground g                   the drawing g has passed the tests 2 to 8 as far as is needed here, and each dart's successor is of its event
--   From g u v                 the arrows, direction ignored, join the event v with the event u
--   Marked first v             the event v is marked
--   AllMarked first            every event is
--   Queued g first queue t     the events marked are those of the first t darts of the queue, each once, and all are joined with dart 0's;
--                              a mark is a dart of the event
--   Lent w w'                  the worklists w and w' are of the same two slices
--   Readied g x first queue t  the same as Queued, with a dart x whose event is joined with dart 0's; Ready g x w, of a worklist
--   Grown first queue t ..     marks are kept, and so are the first t places of the queue
--   Push g x first queue t ..  what a push of dart x makes of them; Pushed g x w w', of a worklist
--   Lapped g s left .. k       what following the ring of dart s, back after k steps within left, makes of them
--   Rounded g s left w w' r    the same of a worklist, with r steps; or r is none, and s does not come again within left steps
--   Met g first                first has a dart of each event that the arrows join with dart 0's, and none for the others
--   Gone g first v met         the rings of the events that are marked or below v have been followed, each in its turn, and met so many darts
--   Toured g first r           r darts are met on the rings of the events joined with dart 0's, and if these are all events and not all darts are
--                              met, some event's darts are not one ring
--   Followed g first r         so many darts r are met so; or r is none, and some event's darts are not one ring
--   Passed g first v r         r darts are met on the rings of the events marked or below v; or r is none, and some event's darts are not one ring
use Rattle.std.specs.Prelude.{◌≡◌, ◌≢◌, List, ℕ, ◌+◌, ◌≤◌, ◌<◌, length, Option, Some, None}
use Rattle.finite.specs.Sums.{sum, δ}
use Rattle.drawing.specs.Drawing.{Drawing, darts, event, twin}
use Rattle.drawing.specs.Conditions.{EventsKnown, Rings}
use Rattle.drawing.proofs.Rounds.{Kept}
use Rattle.drawing.proofs.Counted.{Tally, Turns, Circled}
use Rattle.words.specs.Tables.{nth}
use Rattle.rings.specs.declared.Worklist.{Worklist}
use Rattle.rings.specs.Rounds.{Open}

pub record Ground (g : Drawing) : Type 0 where
  pub known : EventsKnown g
  pub kept : Kept g

pub data From (g : Drawing) (u : ℕ) : ℕ → Type 0 where
  start : From g u u
  along : (d : ℕ) → d < darts g → From g u (event g d) → From g u (event g (twin d))

abbrev pub Marked : List ℕ → ℕ → Type 0
Marked first v = nth first v ≢ 65535

abbrev pub AllMarked : List ℕ → Type 0
AllMarked first = (v : ℕ) → v < length first → Marked first v

-- how many events have no mark
unfoldable pub bare : Drawing → List ℕ → ℕ
bare g first = sum g.events (λ v. δ (nth first v) 65535)

pub record Queued (g : Drawing) (first queue : List ℕ) (t : ℕ) : Type 0 where
  pub marks : length first ≡ g.events
  pub room : length queue ≡ g.events
  pub count : bare g first + t ≡ g.events
  pub entry : (i : ℕ) → i < t → (nth queue i < darts g) × Marked first (event g (nth queue i))
  pub once : (i j : ℕ) → i < j → j < t → event g (nth queue i) ≢ event g (nth queue j)
  pub found : (v : ℕ) → v < g.events → Marked first v → (i : ℕ) × (i < t) × (event g (nth queue i) ≡ v)
  pub own : (v : ℕ) → v < g.events → Marked first v → (nth first v < darts g) × (event g (nth first v) ≡ v)
  pub real : (v : ℕ) → v < g.events → Marked first v → From g (event g 0) v

pub record Readied (g : Drawing) (x : ℕ) (first queue : List ℕ) (t : ℕ) : Type 0 where
  pub ground : Ground g
  pub dart : x < darts g
  pub queued : Queued g first queue t
  pub joined : From g (event g 0) (event g x)

pub record Grown (first queue : List ℕ) (t : ℕ) (first' queue' : List ℕ) (t' : ℕ) : Type 0 where
  pub longer : t ≤ t'
  pub kept : (v : ℕ) → Marked first v → Marked first' v
  pub same : (i : ℕ) → i < t → nth queue' i ≡ nth queue i

pub record Push (g : Drawing) (x : ℕ) (first queue : List ℕ) (t : ℕ) (first' queue' : List ℕ) (t' : ℕ) : Type 0 where
  pub queued : Queued g first' queue' t'
  pub grown : Grown first queue t first' queue' t'
  pub here : Marked first' (event g x)

pub record Lapped (g : Drawing) (s left : ℕ) (first queue : List ℕ) (t : ℕ) (first' queue' : List ℕ) (t' k : ℕ) : Type 0 where
  pub queued : Queued g first' queue' t'
  pub grown : Grown first queue t first' queue' t'
  pub within : k ≤ left
  pub ring : Circled g s k
  pub ends : Rings g → (d : ℕ) → d < darts g → event g d ≡ event g s → Marked first' (event g (twin d))

abbrev pub Lent : Worklist → Worklist → Type 0
Lent w w' = (w'.first.ghost_name ≡ w.first.ghost_name) × (w'.queue.ghost_name ≡ w.queue.ghost_name)

abbrev pub Ready : Drawing → ℕ → Worklist → Type 0
Ready g x w = Readied g x w.first.now w.queue.now w.end

abbrev pub Pushed : Drawing → ℕ → Worklist → Worklist → Type 0
Pushed g x w w' = Push g x w.first.now w.queue.now w.end w'.first.now w'.queue.now w'.end

abbrev pub Rounded : Drawing → ℕ → ℕ → Worklist → Worklist → Option ℕ → Type 0
Rounded g s left w w' (Some k) = Lapped g s left w.first.now w.queue.now w.end w'.first.now w'.queue.now w'.end k
Rounded g s left w w' None =
    Open g s left × Queued g w'.first.now w'.queue.now w'.end × Grown w.first.now w.queue.now w.end w'.first.now w'.queue.now w'.end

pub record Met (g : Drawing) (first : List ℕ) : Type 0 where
  pub size : length first ≡ g.events
  pub own : (v : ℕ) → v < g.events → Marked first v → (nth first v < darts g) × (event g (nth first v) ≡ v)
  pub real : (v : ℕ) → v < g.events → Marked first v → From g (event g 0) v
  pub each : (v : ℕ) → v < g.events → From g (event g 0) v → Marked first v

pub record Gone (g : Drawing) (first : List ℕ) (v met : ℕ) : Type 0 where
  pub turn : ℕ → ℕ
  pub many : ℕ
  pub told : Tally g turn many met
  pub turns : Turns g turn many
  pub each : (u : ℕ) → u < g.events → (v ≤ u → Marked first u) → (i : ℕ) × (i < many) × (turn i ≡ u)
  pub only : (i : ℕ) → i < many → v ≤ turn i → Marked first (turn i)

pub record Toured (g : Drawing) (first : List ℕ) (r : ℕ) : Type 0 where
  pub size : length first ≡ g.events
  pub few : r ≤ darts g
  pub whole : r ≡ darts g → Rings g
  pub short : r < darts g → AllMarked first → Rings g → ⊥
  pub met : Rings g → Met g first
  pub gone : Gone g first 0 r

abbrev pub Followed : Drawing → List ℕ → Option ℕ → Type 0
Followed g first (Some r) = Toured g first r
Followed g first None = Rings g → ⊥

abbrev pub Passed : Drawing → List ℕ → ℕ → Option ℕ → Type 0
Passed g first v (Some r) = (r ≤ darts g) × Gone g first v r
Passed g first v None = Rings g → ⊥
