-- The search: its start, its step, a face with room, and a crowd where no face has any. Assumes nothing.
use mathlib.Core.Path.{◌≡◌, sym, ap, ◌∙◌, subst}
use mathlib.Core.Logic.{inl, inr, ⊎_elim}
use mathlib.Core.List.{List}
use Prim.Native.Nat.{ℕ, suc, ◌+◌, ◌-◌, ◌*◌, ◌≤◌, ◌<◌, min}
use native.Mathlib.Nat.{mul-one, zero-mul}
use native.Mathlib.Decide.{ℕ_discrete, dec_lt}
use native.Mathlib.Omega.{arith}
use lib.ListN.{length}
use Rattle.finite.specs.Sums.{sum, δ, class}
use Rattle.finite.proofs.Sum.{δ_other, δ-le, sum_cong, sum_prefix}
use Rattle.finite.proofs.Class.{cut}
use Rattle.finite.proofs.Filled.{past}
use Rattle.drawing.specs.Drawing.{Drawing, darts, event, faces}
use Rattle.words.specs.Tables.{nth}
use Rattle.chart.proofs.Keys.{faces_few}
use Rattle.placing.specs.Board.{Board, Own, face_of, load, hold, Valid, Crowd}
use Rattle.placing.specs.Search.{Seen, Grown, Touched, PlacedIn, Scanned, Reached, From, Search, Way, member}
use Rattle.placing.proofs.Boards.{face_of_lem, face-none, here_into}
use Rattle.placing.proofs.Listing.{seen_kept, grown_as, ends_few}

-- the old entries stand
pub from_kept : (g : Drawing) {here : List ℕ} (L : List ℕ) (u : ℕ) {P : ℕ → Type 0} {rank via : List ℕ} {t : ℕ} {rank' via' : List ℕ} {t' : ℕ} → Grown here P rank via t rank' via' t'
    → (i : ℕ) → i < t → From g here L u rank via i → From g here L u rank' via' i
from_kept g {here} L u {via = via} G i l w =
    rw (G.same i l) (⊎_elim (λ a. inl a) (λ b. inr (b.0, rw (G.kept (nth here (nth L (event g (nth via i)))) b.1.0) b.1)) w)

pub search_start : {g : Drawing} {here L s : List ℕ} {u : ℕ} {rank₀ via₀ rank via : List ℕ} {t : ℕ} → length rank₀ ≡ faces g → Touched g here s u rank₀ via₀ 0 rank via t → Search g here L s u rank via 0 t
search_start e T = record {
  held = T.grown.held;
  ranks = T.grown.size ∙ e;
  within = omega arith;
  from = λ i a. inl (T.grown.new i (omega arith) a).0;
  full = λ i a. (T.grown.new i (omega arith) a).1;
  closed = λ i a. absurd (omega arith);
  first = T.seen;
}

-- a face with room at once
pub way_start : {g : Drawing} {here : List ℕ} (L : List ℕ) {s : List ℕ} {u : ℕ} {rank₀ via₀ rank via : List ℕ} {t at : ℕ} → Reached here s (λ d. event g d ≡ u) rank₀ via₀ 0 rank via t at → Way g here L s u rank via at
way_start L {t = t} R =
    record { end = t; held = R.grown.held; inside = omega (arith, R.last); from = λ j a. inl (R.grown.new j (omega arith) (omega (arith, R.last))); spare = R.room }

-- an event that is placed is at a corner of its own
pub at_own : (g : Drawing) (L : List ℕ) → Own g L → (v : ℕ) → v < g.events → nth L v < darts g → event g (nth L v) ≡ v
at_own g L own v l p = ⊎_elim (λ z. absurd (omega arith)) (λ w. w.1) (own v l)

module _ {g : Drawing} {here L s : List ℕ} {u : ℕ} {rank via : List ℕ} {h t : ℕ} (B : Board g here) (K : Valid g L s) (Q : Search g here L s u rank via h t) where
  pub via_in : h < t → h < length via
  via_in l = omega (arith, ends_few Q.held, Q.held.vias)

  -- the corner c of entry h, and its face f
  module _ (l : h < t) {c : ℕ} (is_c : c ≡ nth via h) where
    pub corner_in : c < darts g
    corner_in = omega (arith, (Q.held.entry h l).0, B.keyed.size)

    from_more : {rank' via' : List ℕ} {t' : ℕ} → Grown here (PlacedIn g here L (nth here c)) rank via t rank' via' t' → (i : ℕ) → i < t' → From g here L u rank' via' i
    from_more {rank'} {via'} G i a = elim (dec_lt i t) [
      | yes q ↦ from_kept g L u G i q (Q.from i q)
      | no q ↦
          let w : PlacedIn g here L (nth here c) (nth via' i) = G.new i (omega arith) a in
          let r : nth rank (nth here c) ≡ h + 1 = ap (λ (x : ℕ). nth rank (nth here x)) is_c ∙ (Q.held.entry h l).1 in
          let r' : nth rank' (nth here c) ≡ nth rank (nth here c) = G.kept (nth here c) (omega arith) in
          inr (w.0, rw w.1 (omega arith, omega arith))
    ]

    pub search_step : {rank' via' : List ℕ} {t' : ℕ} → Scanned g here L s c rank via t rank' via' t' → Search g here L s u rank' via' (h + 1) t'
    search_step {rank'} {via'} {t'} S = record {
      held = S.grown.held;
      ranks = S.grown.size ∙ Q.ranks;
      within = omega (arith, S.grown.longer);
      from = from_more (grown_as S.grown (λ d a q. q.0));
      full = λ i a. elim (dec_lt i t) [
        | yes q ↦ rw (S.grown.same i q) (Q.full i q)
        | no q ↦ (S.grown.new i (omega arith) a).1
      ];
      closed = λ i a d b. rw (S.grown.same i (omega (arith, Q.within))) (elim (ℕ_discrete i h) [
        | yes e ↦ rw (e, sym is_c) (λ w. S.seen d b (at_own g L K.own (event g d) (B.known d b) w.0) w)
        | no e ↦ λ w. seen_kept S.grown (nth here d) (Q.closed i (omega arith) d b w)
      ]);
      first = λ d b e. seen_kept S.grown (nth here d) (Q.first d b e);
    }

    pub way_step : {rank' via' : List ℕ} {t' at : ℕ} → Reached here s (PlacedIn g here L (nth here c)) rank via t rank' via' t' at → Way g here L s u rank' via' at
    way_step {t' = t'} R =
        record { end = t'; held = R.grown.held; inside = omega (arith, R.last); from = λ j a. from_more R.grown j (omega (arith, R.last)); spare = R.room }

  -- nothing is left to do: u and all who are placed in a listed face are too many
  module _ (l : t ≤ h) (u-in : u < g.events) (free : darts g ≤ nth L u) where
    -- a listed face is full, and who is placed there touches listed faces only
    full_all : (f : ℕ) → Seen rank f → nth s f ≡ 0
    full_all f w =
        let r = Q.held.found f w in
        let k : nth rank f ≤ t = r.0 in
        subst (λ (x : ℕ). nth s x ≡ 0) r.1 (Q.full (nth rank f - 1) (omega arith))

    closed_all : (d : ℕ) → d < darts g → nth L (event g d) < darts g → Seen rank (nth here (nth L (event g d))) → Seen rank (nth here d)
    closed_all d b p w =
        let r = Q.held.found (nth here (nth L (event g d))) w in
        let k : nth rank (nth here (nth L (event g d))) ≤ t = r.0 in
        Q.closed (nth rank (nth here (nth L (event g d))) - 1) (omega arith) d b (p, sym r.1)

    nowhere : (v : ℕ) → darts g ≤ nth L v → nth rank (face_of here (nth L v)) ≡ 0
    nowhere v z = rw (face-none here (nth L v) (omega (arith, B.keyed.size))) (past rank (length here) Q.held.ranks)

    somewhere : (v : ℕ) → nth L v < darts g → face_of here (nth L v) ≡ nth here (nth L v)
    somewhere v z = face_of_lem here (nth L v) (omega (arith, B.keyed.size))

    into : (v : ℕ) → v < g.events → face_of here (nth L v) < suc (darts g)
    into v b = ⊎_elim
        (λ z. omega (arith, face-none here (nth L v) (omega (arith, B.keyed.size)), B.keyed.size))
        (λ w. omega (arith, somewhere v w.0, here_into B (nth L v) w.0, faces_few g))
        (K.own v b)

    touch : (c : ℕ) → c < darts g → member here L rank u (event g c) ≤ min 1 (nth rank (nth here c))
    touch c b = elim (ℕ_discrete (event g c) u) [
      | yes e ↦ omega (arith, Q.first c b e)
      | no d ↦ ⊎_elim
          (λ z. omega (arith, δ_other u (event g c) (λ q. d (sym q)), nowhere (event g c) z))
          (λ w. elim (dec_lt 0 (nth rank (nth here (nth L (event g c))))) [
            | yes p ↦ omega (arith, closed_all c b w.0 p)
            | no p ↦ omega (arith, δ_other u (event g c) (λ q. d (sym q)), ap (nth rank) (somewhere (event g c) w.0))
          ])
          (K.own (event g c) (B.known c b))
    ]

    loads : (f : ℕ) → class g.events (λ v. face_of here (nth L v)) (λ v. 1) f ≡ load g here L f
    unfolding class
    loads f = sum_cong g.events (λ v. δ (face_of here (nth L v)) f * 1) (λ v. δ (face_of here (nth L v)) f) (λ v k. mul-one (δ (face_of here (nth L v)) f))

    full : (f : ℕ) → f < suc (darts g) → min 1 (nth rank f) * class g.events (λ v. face_of here (nth L v)) (λ v. 1) f ≡ min 1 (nth rank f) * hold g here L s f
    full f b = elim (dec_lt 0 (nth rank f)) [
      | yes p ↦ ap (λ (x : ℕ). min 1 (nth rank f) * x) (omega (arith, loads f, full_all f p))
      | no p ↦ let z : min 1 (nth rank f) ≡ 0 = omega arith in rw z (zero-mul (class g.events (λ v. face_of here (nth L v)) (λ v. 1) f) ∙ sym (zero-mul (hold g here L s f)))
    ]

    closed : (v : ℕ) → v < g.events → 1 * min 1 (nth rank (face_of here (nth L v))) + δ u v ≤ member here L rank u v
    closed v b = elim (ℕ_discrete u v) [
      | yes e ↦ omega (arith, δ-le u v, nowhere v (omega (arith, ap (nth L) e)))
      | no d ↦ omega (arith, δ_other u v d)
    ]

    pub stuck : Crowd g here (hold g here L s) (member here L rank u)
    stuck = record {
      t = λ f. min 1 (nth rank f);
      touch = touch;
      over =
          let c : sum (suc (darts g)) (λ f. min 1 (nth rank f) * hold g here L s f) < sum g.events (member here L rank u) =
          cut g.events (suc (darts g)) (λ v. 1) (λ v. face_of here (nth L v)) (hold g here L s) (member here L rank u) (λ f. min 1 (nth rank f)) u into u-in full closed in
          omega (arith, sum_prefix (faces g) (suc (darts g)) (λ f. min 1 (nth rank f) * hold g here L s f) (omega (arith, faces_few g)));
    }
