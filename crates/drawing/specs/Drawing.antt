-- A drawing, its faces, its corners and their rooms, its events (document 01, "The chart file" and "Faces, corners, room"). Assumes nothing.
-- Everything here and in Conditions speaks of a drawing and never of a chart's bytes.
--   darts, arrows, event, after, tail, head, twin, enters, leaves      darts and arrows
--   walk, face, faces, is_face, face_list, outer_face                     faces; a face goes by its lowest dart
--   corner_face, plain, switch, corners, switches, room, room1              corners
--   entering, leaving, source, sink, pole, changes, mixed, touches     events
use Rattle.std.specs.Prelude.{ℕ, ◌+◌, ◌-◌, ◌*◌, ◌/◌, ◌%◌, Bool, cond, ◌||◌, List, eqb, ltb, ℤ, pos, ◌-ℤ◌, length, get_or}
use Rattle.finite.specs.Sums.{sum, δ, class, below}
use Rattle.finite.specs.Steps.{lowest}

-- the number of events, the outer dart, the event of each dart, and the dart clockwise after each dart round its event
pub record Drawing : Type 0 where
  pub events : ℕ
  pub outer : ℕ
  pub at : List ℕ
  pub next : List ℕ

-- ---- darts. "Arrow a has dart 2a, leaving its tail, and dart 2a+1, leaving its head."

abbrev pub darts : Drawing → ℕ
darts g = length g.at

abbrev pub arrows : Drawing → ℕ
arrows g = darts g / 2

-- the event of dart d
abbrev pub event : Drawing → ℕ → ℕ
event g d = get_or g.at d 0

-- "for each dart .. the next dart clockwise round its event"
abbrev pub after : Drawing → ℕ → ℕ
after g d = get_or g.next d 0

abbrev pub tail : Drawing → ℕ → ℕ
tail g a = event g (2 * a)

abbrev pub head : Drawing → ℕ → ℕ
head g a = event g (2 * a + 1)

-- "The twin of a dart is the other dart of its arrow": 2a + 1 for 2a, and 2a for 2a + 1
unfoldable pub twin : ℕ → ℕ
twin d = d + 1 - 2 * (d % 2)

-- 1 if the arrow of dart d enters the event of d, else 0
abbrev pub enters : ℕ → ℕ
enters d = d % 2

-- 1 if it leaves the event, else 0
abbrev pub leaves : ℕ → ℕ
leaves d = (d + 1) % 2

-- ---- faces

-- "After dart d, a face walk takes the clockwise successor of d's twin."
abbrev pub walk : Drawing → ℕ → ℕ
walk g d = after g (twin d)

-- the face that holds dart d, named by its lowest dart
unfoldable pub face : Drawing → ℕ → ℕ
face g d = lowest (darts g) (walk g) d

abbrev pub is_face : Drawing → ℕ → Bool
is_face g f = eqb (face g f) f

-- "Faces are numbered by their lowest darts, ascending": face number k is entry k of this list
unfoldable pub face_list : Drawing → List ℕ
face_list g = below (darts g) (is_face g)

-- how many faces there are: the darts that are the lowest of their face
unfoldable pub faces : Drawing → ℕ
faces g = sum (darts g) (λ f. δ (face g f) f)

-- "The outer face is the one holding the outer dart."
abbrev pub outer_face : Drawing → ℕ
outer_face g = face g g.outer

-- ---- corners. "Corner c lies at the event of dart c, between c and its clockwise successor, in the face that holds this successor."
-- Where c is its own successor, that is at an event with one arrow, this is one corner like any other.

abbrev pub corner_face : Drawing → ℕ → ℕ
corner_face g c = face g (after g c)

-- 1 if one side leaves the event and the other enters it, else 0
abbrev pub plain : Drawing → ℕ → ℕ
plain g c = (enters c + enters (after g c)) % 2

-- "A corner is a switch if both sides leave or both enter the event; otherwise plain": 1 if it is, else 0
abbrev pub switch : Drawing → ℕ → ℕ
switch g c = (enters c + enters (after g c) + 1) % 2

-- the corners of the face f
unfoldable pub corners : Drawing → ℕ → ℕ
corners g f = class (darts g) (corner_face g) (λ c. 1) f

-- the switch corners of the face f
unfoldable pub switches : Drawing → ℕ → ℕ
switches g f = class (darts g) (corner_face g) (switch g) f

-- "A face has an even number 2n of switch corners. Its room is n - 1, or n + 1 for the outer face. Room is signed."
unfoldable pub room : Drawing → ℕ → ℤ
room g f = cond (eqb (outer_face g) f) (pos (switches g f / 2 + 1)) (pos (switches g f / 2) -ℤ pos 1)

-- the room of the face f and one more, which is no less than 0: inside, rooms are kept so
unfoldable pub room1 : Drawing → ℕ → ℕ
room1 g f = switches g f / 2 + 2 * δ (outer_face g) f

-- ---- events

-- the arrows that enter the event v
unfoldable pub entering : Drawing → ℕ → ℕ
entering g v = class (darts g) (event g) enters v

-- the arrows that leave it
unfoldable pub leaving : Drawing → ℕ → ℕ
leaving g v = class (darts g) (event g) leaves v

-- "A source has no entering arrow, a sink no leaving one."
abbrev pub source : Drawing → ℕ → Bool
source g v = eqb (entering g v) 0

abbrev pub sink : Drawing → ℕ → Bool
sink g v = eqb (leaving g v) 0

-- a source or a sink
abbrev pub pole : Drawing → ℕ → Bool
pole g v = source g v || sink g v

-- how often the direction changes, going once round v: at its plain corners
unfoldable pub changes : Drawing → ℕ → ℕ
changes g v = class (darts g) (event g) (plain g) v

-- "An event is mixed if, going once round it, the direction changes more than twice."
abbrev pub mixed : Drawing → ℕ → Bool
mixed g v = ltb 2 (changes g v)

-- ascending
unfoldable pub mixed_events : Drawing → List ℕ
mixed_events g = below g.events (mixed g)

-- "An event touches a face if it has a corner there."
unfoldable pub touches : Drawing → ℕ → ℕ → Bool
touches g v f = ltb 0 (class (darts g) (event g) (λ c. δ (corner_face g c) f) v)
