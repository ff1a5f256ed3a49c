-- What a board gives: the corners of a face follow each other, and the face of a corner. Assumes nothing.
use mathlib.Core.Path.{◌≡◌, refl, sym, ap, ◌∙◌}
use mathlib.Core.List.{List, [], ◌∷◌}
use Prim.Native.Nat.{ℕ, zero, suc, ◌≤◌, ◌<◌}
use native.Mathlib.Nat.{not-suc-le-zero, le_of_suc-le-suc}
use lib.ListN.{length, get_or, get_or-eq_default}
use Rattle.finite.specs.Steps.{iter, Into, Inj, Reach}
use Rattle.finite.proofs.Orbit.{iter_into}
use Rattle.drawing.specs.Drawing.{Drawing, darts, after, walk, faces}
use Rattle.drawing.proofs.Twins.{twin_into, twin_inj}
use Rattle.drawing.proofs.Rounds.{after_inj}
use Rattle.drawing.proofs.Faces.{corner_twin, face_same}
use Rattle.words.specs.Tables.{nth}
use Rattle.placing.specs.Board.{Board, turn, face_of}

-- ---- the face of a corner, or none
default : (l : List ℕ) (i a b : ℕ) → i < length l → get_or l i a ≡ get_or l i b
default [] i a b h = absurd (not-suc-le-zero h)
default (x ∷ l) zero a b h = refl
default (x ∷ l) (suc i) a b h = default l i a b (le_of_suc-le-suc h)

pub face_of_lem : (here : List ℕ) (c : ℕ) → c < length here → face_of here c ≡ nth here c
face_of_lem here c l = default here c (length here) 0 l

pub face-none : (here : List ℕ) (c : ℕ) → length here ≤ c → face_of here c ≡ length here
face-none here c l = get_or-eq_default here (length here) l

module _ {g : Drawing} {here : List ℕ} (B : Board g here) where
  pub here_into : Into (darts g) (faces g) (nth here)
  here_into = B.keyed.inside

  pub turn_into : Into (darts g) (darts g) (turn g)
  turn_into c l = twin_into (darts g) B.even (after g c) (B.rings.inside c l)

  pub turn_inj : Inj (darts g) (turn g)
  turn_inj i j k l q = after_inj g B.rings i j k l (twin_inj (darts g) (after g i) (after g j) (B.rings.inside i k) (B.rings.inside j l) q)

  -- the next corner of a face is a corner of it
  pub turn_stays : (c : ℕ) → c < darts g → nth here (turn g c) ≡ nth here c
  turn_stays c l =
      (B.keyed.same (turn g c) c (turn_into c l) l).0 (corner_twin g B.even B.rings (after g c) (B.rings.inside c l))

  turns : (k c : ℕ) → iter (walk g) k (after g c) ≡ after g (iter (turn g) k c)
  unfolding iter
  turns zero c = refl
  turns (suc k) c = ap (walk g) (turns k c)

  -- and each corner of it is met so
  pub turn_meets : (c e : ℕ) → c < darts g → e < darts g → nth here c ≡ nth here e → Reach (turn g) c e
  turn_meets c e l m q =
      let r = (face_same g B.even B.rings (after g c) (after g e) (B.rings.inside c l) (B.rings.inside e m)).1 ((B.keyed.same c e l m).1 q) in
      (r.0, after_inj g B.rings (iter (turn g) r.0 c) e (iter_into (darts g) (turn g) turn_into r.0 c l) m (sym (turns r.0 c) ∙ r.1))
