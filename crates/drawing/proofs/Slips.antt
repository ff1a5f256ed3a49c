-- What the slips that document 01 warns of would change, at small drawings: each fact is computed, and each slip makes one of them false. Assumes nothing.
--   c8 o       chart C8, with outer dart o: event 3 is a dead end
--   twice      a path 1 ← 0 → 2, whose one face has two corners of event 0
--   ringed     an event that an arrow leaves, one enters and one leaves, in this order round it: two changes
--   doubly     C8 with an arrow 1→4 in its inner face, of room 1 then: the events 3 and 4 touch that face and no other
use mathlib.Core.Path.{◌≡◌, refl}
use mathlib.Core.List.{[], ◌∷◌}
use Prim.Native.Nat.{ℕ, ◌≤◌}
use lib.IntN.{pos}
use Rattle.finite.specs.Sums.{sum, δ, class, below}
use Rattle.finite.specs.Steps.{iter, least, lowest}
use Rattle.finite.specs.Lists.{sumℤ}
use Rattle.finite.proofs.Decide.{is_yes_lem, all?, le?}
use Rattle.drawing.specs.Drawing.{Drawing, twin, face, switches, room, changes, mixed_events, touches}
use Rattle.drawing.specs.Conditions.{NoneMixed, room_of}

unfoldable pub c8 : ℕ → Drawing
c8 o = record {
  events = 4;
  outer = o;
  at = 0 ∷ 1 ∷ 1 ∷ 2 ∷ 0 ∷ 2 ∷ 2 ∷ 3 ∷ [];
  next = 4 ∷ 2 ∷ 1 ∷ 5 ∷ 0 ∷ 6 ∷ 3 ∷ 7 ∷ [];
}

unfoldable pub twice : Drawing
twice = record { events = 3; outer = 0; at = 0 ∷ 1 ∷ 0 ∷ 2 ∷ []; next = 2 ∷ 1 ∷ 0 ∷ 3 ∷ [] }

unfoldable pub ringed : Drawing
ringed = record { events = 4; outer = 0; at = 0 ∷ 1 ∷ 2 ∷ 0 ∷ 0 ∷ 3 ∷ []; next = 3 ∷ 1 ∷ 2 ∷ 4 ∷ 0 ∷ 5 ∷ [] }

unfoldable pub doubly : Drawing
doubly = record {
  events = 5;
  outer = 0;
  at = 0 ∷ 1 ∷ 1 ∷ 2 ∷ 0 ∷ 2 ∷ 2 ∷ 3 ∷ 1 ∷ 4 ∷ [];
  next = 4 ∷ 2 ∷ 8 ∷ 5 ∷ 0 ∷ 6 ∷ 3 ∷ 7 ∷ 1 ∷ 9 ∷ [];
}

-- a dead end's corner counts, and the plus one is the outer face's: the face that holds the dead end has room 0, the outer one 2
dead_end : (room (c8 0) 1 ≡ pos 0) × (room (c8 0) 0 ≡ pos 2)
unfolding c8 sum δ class iter least lowest twin face switches room
dead_end = (refl, refl)

-- switches are counted by corner
by_corner : switches twice 0 ≡ 4
unfolding twice sum δ class iter least lowest twin face switches
by_corner = refl

-- changes are counted round the ring, and two are allowed
round_the_ring : (changes ringed 0 ≡ 2) × (mixed_events ringed ≡ [])
unfolding ringed sum δ class below changes mixed_events
round_the_ring = (refl, refl)

none-mixed : NoneMixed ringed
unfolding ringed sum δ class changes all? le?
none-mixed = is_yes_lem (all? 4 (λ v. changes ringed v ≤ 2) (λ v. le? (changes ringed v) 2)) tt

-- a cut's room counts each face once
each_face_once : room_of doubly (3 ∷ 4 ∷ []) ≡ pos 1
unfolding doubly sum δ class iter least lowest twin face switches room touches sumℤ room_of
each_face_once = refl
