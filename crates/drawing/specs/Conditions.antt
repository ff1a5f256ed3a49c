-- What document 01 asks of a drawing: the tests 6 to 14 as propositions; circle, labelling and cut. Assumes nothing.
--   EventsKnown, NoOwnArrow, OuterKnown, Rings, Joined, Planar      tests 6 to 11
--   NoneMixed, Circle, NoCircle                                     tests 12 and 13
--   Labelling, Drawable, Cut                                        test 14
--   RoomTotal                                                       004, Lemma 1
use Rattle.std.specs.Prelude.{◌≡◌, ◌≢◌, ◌⊎◌, Bool, false, cond, ◌&&◌, ◌||◌, List, [], ◌∷◌, ℕ, ◌+◌, ◌≤◌, ◌<◌, T, ℤ, pos, ◌<ℤ◌, length, get_or}
use Rattle.finite.specs.Sums.{bit, count, δ, class}
use Rattle.finite.specs.Steps.{iter}
use Rattle.finite.specs.Lists.{All, Distinct, Ascending, sumℤ}
use Rattle.drawing.specs.Drawing.{Drawing, darts, arrows, event, after, tail, head, twin, face, faces, is_face, outer_face, corner_face, plain, switch, corners, room, pole, changes, touches}

-- ---- the tests 6 to 11

-- not "a tail or head is V or more"
abbrev pub EventsKnown : Drawing → Type 0
EventsKnown g = (d : ℕ) → d < darts g → event g d < g.events

-- not "a tail equals its head"
abbrev pub NoOwnArrow : Drawing → Type 0
NoOwnArrow g = (a : ℕ) → a < arrows g → tail g a ≢ head g a

-- not "2A or more"
abbrev pub OuterKnown : Drawing → Type 0
OuterKnown g = g.outer < darts g

-- no entry is 2A or more, and the successors are "one ring for each event that has darts, holding exactly its darts":
-- going round from a dart keeps to its event, and meets each dart of it
pub record Rings (g : Drawing) : Type 0 where
  pub inside : (d : ℕ) → d < darts g → after g d < darts g
  pub stays : (d : ℕ) → d < darts g → event g (after g d) ≡ event g d
  pub meets : (d e : ℕ) → d < darts g → e < darts g → event g d ≡ event g e → (k : ℕ) × (k < darts g) × (iter (after g) k d ≡ e)

-- the events that the arrows, direction ignored, join with event 0
pub data Reached (g : Drawing) : ℕ → Type 0 where
  first : Reached g 0
  along : (d : ℕ) → d < darts g → Reached g (event g d) → Reached g (event g (twin d))

-- "the arrows, direction ignored, join all events"
abbrev pub Joined : Drawing → Type 0
Joined g = (v : ℕ) → v < g.events → Reached g v

-- "V - A + faces is 2"
abbrev pub Planar : Drawing → Type 0
Planar g = g.events + faces g ≡ arrows g + 2

-- ---- the tests 12 and 13

-- no event is mixed
abbrev pub NoneMixed : Drawing → Type 0
NoneMixed g = (v : ℕ) → v < g.events → changes g v ≤ 2

-- the arrows of the list run from u to v, "each head being the next tail"
abbrev pub Runs : Drawing → ℕ → List ℕ → ℕ → Type 0
Runs g u [] v = u ≡ v
Runs g u (a ∷ l) v = (a < arrows g) × (tail g a ≡ u) × Runs g (head g a) l v

-- "a list of at least one arrow, .. each head being the next tail and the last head the first tail"
abbrev pub Round : Drawing → List ℕ → Type 0
Round g [] = ⊥
Round g (a ∷ l) = Runs g (tail g a) (a ∷ l) (tail g a)

-- "none twice"
pub record Circle (g : Drawing) (l : List ℕ) : Type 0 where
  pub distinct : Distinct l
  pub round : Round g l

abbrev pub NoCircle : Drawing → Type 0
NoCircle g = (l : List ℕ) → ¬ Circle g l

-- ---- test 14. "Labels are 0 small, 1 plain, 2 large": entry c of the list is the label of corner c

abbrev pub label : List ℕ → ℕ → ℕ
label l c = get_or l c 0

-- how many corners of the event v have 2
unfoldable pub larges : Drawing → List ℕ → ℕ → ℕ
larges g l v = class (darts g) (event g) (λ c. δ (label l c) 2) v

-- the sum of the labels of the face f
unfoldable pub labels : Drawing → List ℕ → ℕ → ℕ
labels g l f = class (darts g) (corner_face g) (label l) f

pub record Labelling (g : Drawing) (l : List ℕ) : Type 0 where
  pub size : length l ≡ darts g
  -- "every plain corner has 1, every switch corner 0 or 2"
  pub plains : (c : ℕ) → c < darts g → plain g c ≡ 1 → label l c ≡ 1
  pub switches : (c : ℕ) → c < darts g → switch g c ≡ 1 → (label l c ≡ 0) ⊎ (label l c ≡ 2)
  -- "a source or sink has exactly one 2; any other event none"
  pub events : (v : ℕ) → v < g.events → larges g l v ≡ bit (pole g v)
  -- "the labels of an inner face sum to its corners minus 2, of the outer face to its corners plus 2"
  pub inner : (f : ℕ) → f < darts g → face g f ≡ f → f ≢ outer_face g → labels g l f + 2 ≡ corners g f
  pub outer : labels g l (outer_face g) ≡ corners g (outer_face g) + 2

abbrev pub Drawable : Drawing → Type 0
Drawable g = (l : List ℕ) × Labelling g l

-- ---- cuts

-- some event of the list touches the face
abbrev pub touched : Drawing → List ℕ → ℕ → Bool
touched g [] f = false
touched g (v ∷ l) f = touches g v f || touched g l f

-- "the sum of the rooms of the faces it touches, each face counted once"
unfoldable pub room_of : Drawing → List ℕ → ℤ
room_of g l = sumℤ (darts g) (λ f. cond (is_face g f && touched g l f) (room g f) (pos 0))

-- "A cut is a set of sources and sinks larger than the sum of the rooms of the faces it touches": the set as an ascending list
pub record Cut (g : Drawing) (l : List ℕ) : Type 0 where
  pub ascending : Ascending l
  pub poles : All (λ v. (v < g.events) × T (pole g v)) l
  pub larger : room_of g l <ℤ pos (length l)

-- "the room of all faces totals the number of sources and sinks"
abbrev pub RoomTotal : Drawing → Type 0
RoomTotal g = sumℤ (darts g) (λ f. cond (is_face g f) (room g f) (pos 0)) ≡ pos (count g.events (pole g))
