-- Events placed in any order: the poles below e are placed, some of the others may be, and nobody else is. Assumes nothing.
use mathlib.Core.Path.{◌≡◌, sym, ap, ◌∙◌, subst}
use mathlib.Core.Logic.{◌≢◌, inl}
use mathlib.Core.List.{List}
use Prim.Native.Nat.{ℕ, ◌+◌, ◌*◌, ◌≤◌, ◌<◌}
use native.Mathlib.Decide.{ℕ_discrete}
use native.Mathlib.Omega.{arith}
use lib.ListN.{length}
use Rattle.finite.specs.Sums.{δ}
use Rattle.finite.proofs.Sum.{δ_other, sum_cong, sum-zero}
use Rattle.finite.proofs.Filled.{past}
use Rattle.drawing.specs.Drawing.{Drawing, darts, faces}
use Rattle.words.specs.Tables.{nth}
use Rattle.chart.proofs.Keys.{faces_few}
use Rattle.placing.specs.Board.{Board, face_of, load, hold, Nobody, All, Crowd}
use Rattle.placing.specs.Search.{member, Placed, Sofar}
use Rattle.placing.proofs.Boards.{face-none}

-- who is not placed is nowhere
away : {g : Drawing} {here : List ℕ} (L : List ℕ) → Board g here → (v : ℕ) → darts g ≤ nth L v → face_of here (nth L v) ≡ darts g
away {here = here} L B v z = face-none here (nth L v) (omega (arith, B.keyed.size)) ∙ B.keyed.size

-- a crowd by equal rooms
pub crowd_as : {g : Drawing} {here : List ℕ} {room room' S : ℕ → ℕ} → Crowd g here room S → ((f : ℕ) → f < faces g → room f ≡ room' f) → Crowd g here room' S
crowd_as {g} {here} {room} {room'} C e = record {
  t = C.t;
  touch = C.touch;
  over = omega (arith, C.over, sum_cong (faces g) (λ f. C.t f * room f) (λ f. C.t f * room' f) (λ f l. ap (λ (x : ℕ). C.t f * x) (e f l)));
}

module _ {g : Drawing} {here : List ℕ} (poles : ℕ → ℕ) (B : Board g here) where
  pub settle_start : (L s : List ℕ) → length L ≡ g.events → length s ≡ faces g → Nobody g L → Sofar g here poles (nth s) 0 L s
  settle_start L s p q none = record {
    valid = record { events = p; keys = q; own = λ v l. inl (none v l) };
    within = omega arith;
    total = λ f l. omega (arith, empty f l);
    done = λ v l. absurd (omega arith);
    only = λ v l w. none v l;
  }
    where
      empty : (f : ℕ) → f < faces g → load g here L f ≡ 0
      empty f l = sum-zero g.events (λ v. δ (face_of here (nth L v)) f) (λ v k. δ_other (face_of here (nth L v)) f (omega (arith, away L B v (none v k), faces_few g)))

-- a placement of all by equal rooms
pub all_as : {g : Drawing} {here : List ℕ} {poles room room' : ℕ → ℕ} {L : List ℕ} → All g here poles room L → ((f : ℕ) → f < faces g → room f ≡ room' f) → All g here poles room' L
all_as A e = record { own = A.own; each = A.each; none = A.none; fits = λ f l. omega (arith, A.fits f l, e f l) }

module _ {g : Drawing} {here : List ℕ} {poles room : ℕ → ℕ} {e : ℕ} {L s : List ℕ} (S : Sofar g here poles room e L s) where
  pub settle_done : g.events ≤ e → All g here poles room L
  settle_done l = record {
    own = S.valid.own;
    each = λ v k p. S.done v (omega arith) p;
    none = S.only;
    fits = λ f k. omega (arith, S.total f k);
  }

  module _ (l : e < g.events) where
    pub settle_skip : poles e ≢ 1 → Sofar g here poles room (e + 1) L s
    settle_skip d = record {
      valid = S.valid;
      within = omega arith;
      total = S.total;
      done = λ v k p. elim (ℕ_discrete v e) [ yes q ↦ absurd (d (ap poles (sym q) ∙ p)) | no q ↦ S.done v (omega arith) p ];
      only = S.only;
    }

    -- e has its place
    pub settle_kept : nth L e < darts g → Sofar g here poles room (e + 1) L s
    settle_kept h = record {
      valid = S.valid;
      within = omega arith;
      total = S.total;
      done = λ v k p. elim (ℕ_discrete v e) [ yes q ↦ subst (λ (x : ℕ). nth L x < darts g) (sym q) h | no q ↦ S.done v (omega arith) p ];
      only = S.only;
    }

  -- a pole u, wherever it stands
  module _ {u : ℕ} (p : poles u ≡ 1) where
    pub settle_more : {L' s' : List ℕ} → Placed g here L s u L' s' → Sofar g here poles room e L' s'
    settle_more {L'} P = record {
      valid = P.valid;
      within = S.within;
      total = λ f k. P.total f k ∙ S.total f k;
      done = λ v k q. elim (ℕ_discrete v u) [
        | yes h ↦ subst (λ (x : ℕ). nth L' x < darts g) (sym h) P.placed
        | no h ↦ P.still v (omega (arith, S.within)) h (S.done v k q)
      ];
      only = λ v k d. P.none v k (λ q. d (ap poles q ∙ p)) (S.only v k d);
    }

    -- a crowd with u is one of poles
    pub settle_poles : (rank : List ℕ) → Board g here → length rank ≤ darts g → (v : ℕ) → v < g.events → 1 ≤ member here L rank u v → poles v ≡ 1
    settle_poles rank B r v k m = elim (ℕ_discrete (poles v) 1) [
      | yes h ↦ h
      | no h ↦
          let d : u ≢ v = λ i. h (ap poles (sym i) ∙ p) in
          absurd (omega (arith, δ_other u v d, ap (nth rank) (away L B v (S.only v k h)), past rank (darts g) (omega arith)))
    ]

  pub settle_crowd : {T : ℕ → ℕ} → Crowd g here (hold g here L s) T → Crowd g here room T
  settle_crowd C = crowd_as C S.total

-- e takes its place
pub settle_add : {g : Drawing} {here : List ℕ} {poles room : ℕ → ℕ} {e : ℕ} {L s : List ℕ} → Sofar g here poles room e L s → e < g.events → poles e ≡ 1
    → {L' s' : List ℕ} → Placed g here L s e L' s' → Sofar g here poles room (e + 1) L' s'
settle_add S l p P = settle_kept (settle_more S p P) l P.placed
