-- What a search for a place lists, and what it leaves. Assumes nothing.
--   Seen rank f                 the face f is listed
--   Held here rank via t        the first t entries of via are corners of listed faces, each of another face; rank has the face's place, counted from 1
--   Lists here rank list        the corners of the list are of faces that are listed, and each listed face is one of theirs
--   Grown, Listed               more is listed: by corners that have a property; the face of a corner
--   Added, Touched, Visited, Scanned    full faces are listed: the face of a corner; the faces that an event touches, that the event placed at a corner touches,
--                               that the events placed in a corner's face touch
--   Reached                     the face that was listed last, at the place at, has room
--   Adds, Touches, Visits, Scans    full faces are listed, up to the new end; or one with room is reached, at a place of the list
--   From                        the corner of an entry is the event u's, or that of an event placed in a face listed before
--   Search                      a search for a place of u, with the first h entries done: all listed faces are full
--   Way                         entry i has room, and from it the way back to u stands
--   member here L rank u v      1 where v is u, or placed in a face that is listed, else 0
--   Placed                      u is placed, and who was placed before still is; nobody else is
--   Sofar                       the poles below e are placed, some of the others may be, and nobody else is
--   Listing                     the members of a set as an ascending list
use Rattle.std.specs.Prelude.{◌≡◌, ◌≢◌, ◌⊎◌, List, ℕ, ◌+◌, ◌-◌, ◌≤◌, ◌<◌, min, length, ⊤}
use Rattle.std.specs.declared.ops.ControlFlow.{ControlFlow}
use Rattle.std.specs.ControlFlow.{MatchControlFlow}
use Rattle.finite.specs.Sums.{sum, δ}
use Rattle.drawing.specs.Drawing.{Drawing, darts, event, faces}
use Rattle.words.specs.Tables.{nth}
use Rattle.placing.specs.Board.{face_of, hold, Valid}

abbrev pub Seen : List ℕ → ℕ → Type 0
Seen rank f = 1 ≤ nth rank f

-- nothing is listed
abbrev pub Blank : List ℕ → Type 0
Blank rank = (f : ℕ) → nth rank f ≡ 0

pub record Held (here rank via : List ℕ) (t : ℕ) : Type 0 where
  pub into : (c : ℕ) → c < length here → nth here c < length rank
  pub ranks : length rank ≤ length here
  pub vias : length via ≡ length rank
  pub entry : (i : ℕ) → i < t → (nth via i < length here) × (nth rank (nth here (nth via i)) ≡ i + 1)
  pub found : (f : ℕ) → Seen rank f → (nth rank f ≤ t) × (nth here (nth via (nth rank f - 1)) ≡ f)

pub record Lists (here rank list : List ℕ) : Type 0 where
  pub into : (c : ℕ) → c < length here → nth here c < length rank
  pub entry : (i : ℕ) → i < length list → nth list i < length here
  pub found : (f : ℕ) → Seen rank f → (i : ℕ) × (i < length list) × (nth here (nth list i) ≡ f)

-- ---- more is listed

pub record Grown (here : List ℕ) (P : ℕ → Type 0) (rank via : List ℕ) (t : ℕ) (rank' via' : List ℕ) (t' : ℕ) : Type 0 where
  pub held : Held here rank' via' t'
  pub size : length rank' ≡ length rank
  pub longer : t ≤ t'
  pub kept : (f : ℕ) → Seen rank f → nth rank' f ≡ nth rank f
  pub same : (i : ℕ) → i < t → nth via' i ≡ nth via i
  pub new : (i : ℕ) → t ≤ i → i < t' → P (nth via' i)

pub record Listed (here : List ℕ) (c : ℕ) (rank via : List ℕ) (t : ℕ) (rank' via' : List ℕ) (t' : ℕ) : Type 0 where
  pub grown : Grown here (λ d. d ≡ c) rank via t rank' via' t'
  pub seen : Seen rank' (nth here c)

-- the face of the corner d is full
abbrev pub Full : List ℕ → List ℕ → ℕ → Type 0
Full here s d = nth s (nth here d) ≡ 0

pub record Added (here s : List ℕ) (c : ℕ) (rank via : List ℕ) (t : ℕ) (rank' via' : List ℕ) (t' : ℕ) : Type 0 where
  pub grown : Grown here (λ d. (d ≡ c) × Full here s d) rank via t rank' via' t'
  pub seen : Seen rank' (nth here c)

pub record Touched (g : Drawing) (here s : List ℕ) (v : ℕ) (rank via : List ℕ) (t : ℕ) (rank' via' : List ℕ) (t' : ℕ) : Type 0 where
  pub grown : Grown here (λ d. (event g d ≡ v) × Full here s d) rank via t rank' via' t'
  pub seen : (d : ℕ) → d < darts g → event g d ≡ v → Seen rank' (nth here d)

-- d is a corner of the event whose place is c
abbrev pub PlacedAt : Drawing → List ℕ → ℕ → ℕ → Type 0
PlacedAt g L c d = (event g d ≡ event g c) × (nth L (event g c) ≡ c)

-- where c is the place of its event
pub record Visited (g : Drawing) (here L s : List ℕ) (c : ℕ) (rank via : List ℕ) (t : ℕ) (rank' via' : List ℕ) (t' : ℕ) : Type 0 where
  pub grown : Grown here (λ d. PlacedAt g L c d × Full here s d) rank via t rank' via' t'
  pub seen : nth L (event g c) ≡ c → (d : ℕ) → d < darts g → event g d ≡ event g c → Seen rank' (nth here d)

-- d is a corner of an event that is placed in the face f
abbrev pub PlacedIn : Drawing → List ℕ → List ℕ → ℕ → ℕ → Type 0
PlacedIn g here L f d = (nth L (event g d) < darts g) × (nth here (nth L (event g d)) ≡ f)

pub record Scanned (g : Drawing) (here L s : List ℕ) (first : ℕ) (rank via : List ℕ) (t : ℕ) (rank' via' : List ℕ) (t' : ℕ) : Type 0 where
  pub grown : Grown here (λ d. PlacedIn g here L (nth here first) d × Full here s d) rank via t rank' via' t'
  pub seen : (d : ℕ) → d < darts g → event g (nth L (event g d)) ≡ event g d → PlacedIn g here L (nth here first) d → Seen rank' (nth here d)

-- the list ends with the face at the place at, which has room
pub record Reached (here s : List ℕ) (P : ℕ → Type 0) (rank via : List ℕ) (t : ℕ) (rank' via' : List ℕ) (t' at : ℕ) : Type 0 where
  pub grown : Grown here P rank via t rank' via' t'
  pub last : at + 1 ≡ t'
  pub room : 1 ≤ nth s (nth here (nth via' at))

-- what each step answers
abbrev pub Adds : List ℕ → List ℕ → ℕ → List ℕ → List ℕ → ℕ → List ℕ → List ℕ → ℕ → ControlFlow ℕ ⊤ → Type 0
Adds here s c rank via t rank' via' t' r = MatchControlFlow r (λ _. Added here s c rank via t rank' via' t') (Reached here s (λ d. d ≡ c) rank via t rank' via' t')

abbrev pub Touches : Drawing → List ℕ → List ℕ → ℕ → List ℕ → List ℕ → ℕ → List ℕ → List ℕ → ℕ → ControlFlow ℕ ⊤ → Type 0
Touches g here s v rank via t rank' via' t' r = MatchControlFlow r (λ _. Touched g here s v rank via t rank' via' t') (Reached here s (λ d. event g d ≡ v) rank via t rank' via' t')

abbrev pub Visits : Drawing → List ℕ → List ℕ → List ℕ → ℕ → List ℕ → List ℕ → ℕ → List ℕ → List ℕ → ℕ → ControlFlow ℕ ⊤ → Type 0
Visits g here L s c rank via t rank' via' t' r = MatchControlFlow r (λ _. Visited g here L s c rank via t rank' via' t') (Reached here s (PlacedAt g L c) rank via t rank' via' t')

abbrev pub Scans : Drawing → List ℕ → List ℕ → List ℕ → ℕ → List ℕ → List ℕ → ℕ → List ℕ → List ℕ → ℕ → ControlFlow ℕ ⊤ → Type 0
Scans g here L s first rank via t rank' via' t' r = MatchControlFlow r (λ _. Scanned g here L s first rank via t rank' via' t') (Reached here s (PlacedIn g here L (nth here first)) rank via t rank' via' t')

-- ---- the search

abbrev pub From : Drawing → List ℕ → List ℕ → ℕ → List ℕ → List ℕ → ℕ → Type 0
From g here L u rank via i =
    (event g (nth via i) ≡ u)
    ⊎ ((nth L (event g (nth via i)) < darts g) × ((Seen rank (nth here (nth L (event g (nth via i))))) × (nth rank (nth here (nth L (event g (nth via i)))) ≤ i)))

pub record Search (g : Drawing) (here L s : List ℕ) (u : ℕ) (rank via : List ℕ) (h t : ℕ) : Type 0 where
  pub held : Held here rank via t
  pub ranks : length rank ≡ faces g
  pub within : h ≤ t
  pub from : (i : ℕ) → i < t → From g here L u rank via i
  pub full : (i : ℕ) → i < t → nth s (nth here (nth via i)) ≡ 0
  pub closed : (i : ℕ) → i < h → (d : ℕ) → d < darts g → PlacedIn g here L (nth here (nth via i)) d → Seen rank (nth here d)
  pub first : (d : ℕ) → d < darts g → event g d ≡ u → Seen rank (nth here d)

pub record Way (g : Drawing) (here L s : List ℕ) (u : ℕ) (rank via : List ℕ) (i : ℕ) : Type 0 where
  pub end : ℕ
  pub held : Held here rank via end
  pub inside : i < end
  pub from : (j : ℕ) → j ≤ i → From g here L u rank via j
  pub spare : 1 ≤ nth s (nth here (nth via i))

abbrev pub member : List ℕ → List ℕ → List ℕ → ℕ → ℕ → ℕ
member here L rank u v = min 1 (δ u v + nth rank (face_of here (nth L v)))

-- ---- what becomes of a placement

pub record Placed (g : Drawing) (here L s : List ℕ) (u : ℕ) (L' s' : List ℕ) : Type 0 where
  pub valid : Valid g L' s'
  pub total : (f : ℕ) → f < faces g → hold g here L' s' f ≡ hold g here L s f
  pub placed : nth L' u < darts g
  pub none : (v : ℕ) → v < g.events → v ≢ u → darts g ≤ nth L v → darts g ≤ nth L' v
  pub still : (v : ℕ) → v < g.events → v ≢ u → nth L v < darts g → nth L' v < darts g

pub record Sofar (g : Drawing) (here : List ℕ) (poles room : ℕ → ℕ) (e : ℕ) (L s : List ℕ) : Type 0 where
  pub valid : Valid g L s
  pub within : e ≤ g.events
  pub total : (f : ℕ) → f < faces g → hold g here L s f ≡ room f
  pub done : (v : ℕ) → v < e → poles v ≡ 1 → nth L v < darts g
  pub only : (v : ℕ) → v < g.events → poles v ≢ 1 → darts g ≤ nth L v

-- ---- the list of a set: the first k entries are the members below N of the 0-1 set S, ascending
pub record Listing (N : ℕ) (S : ℕ → ℕ) (list : List ℕ) (k : ℕ) : Type 0 where
  pub count : k ≡ sum N S
  pub rising : (i j : ℕ) → i < j → j < k → nth list i < nth list j
  pub each : (i : ℕ) → i < k → (nth list i < N) × (S (nth list i) ≡ 1)
