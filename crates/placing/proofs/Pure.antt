-- Without code: a search finds a place or a crowd, so every board has a placement of all its poles or a crowd of poles. Assumes nothing.
use mathlib.Core.Path.{◌≡◌, refl, ◌∙◌}
use mathlib.Core.Logic.{◌⊎◌, inl, inr, ⊎_elim}
use mathlib.Core.List.{List}
use Prim.Native.Nat.{ℕ, zero, suc, ◌+◌, ◌≤◌, ◌<◌}
use native.Mathlib.Decide.{ℕ_discrete, dec_lt}
use native.Mathlib.Omega.{arith}
use native.Mathlib.Numerals.{add-one}
use lib.ListN.{length, set, length-set, replicate, length-replicate, get_or-replicate}
use Rattle.finite.proofs.Decide.{any?, ◌×?◌, ◌⊎?◌}
use Rattle.finite.proofs.Filled.{blank}
use Rattle.drawing.specs.Drawing.{Drawing, darts, event, faces}
use Rattle.words.specs.Tables.{nth}
use Rattle.chart.proofs.Keys.{faces_few}
use Rattle.placing.specs.Board.{Board, hold, Valid, All, Crowd}
use Rattle.placing.specs.Search.{Seen, Held, Listed, From, Search, Way, member, Placed, Sofar}
use Rattle.placing.proofs.Boards.{here_into}
use Rattle.placing.proofs.Listing.{held_none, listed_more, end_in}
use Rattle.placing.proofs.Moves.{moving_start, shift}
use Rattle.placing.proofs.Finds.{from_kept, stuck}
use Rattle.placing.proofs.Settles.{settle_start, settle_done, settle_skip, settle_kept, settle_add, settle_poles, settle_crowd}

-- ---- a search

module _ {g : Drawing} {here L s : List ℕ} (u : ℕ) (B : Board g here) (K : Valid g L s) (u-in : u < g.events) (free : darts g ≤ nth L u) where
  -- d is a corner by which a face is reached
  abbrev Wants : List ℕ → ℕ → Type 0
  Wants rank d = (event g d ≡ u) ⊎ ((nth L (event g d) < darts g) × (Seen rank (nth here (nth L (event g d)))))

  wants? : (rank : List ℕ) (d : ℕ) → Dec (Wants rank d × (nth rank (nth here d) < 1))
  wants? rank d = (ℕ_discrete (event g d) u ⊎? (dec_lt (nth L (event g d)) (darts g) ×? dec_lt 0 (nth rank (nth here (nth L (event g d)))))) ×? dec_lt (nth rank (nth here d)) 1

  abbrev Finds : Type 0
  Finds = ((L' : List ℕ) × (s' : List ℕ) × Placed g here L s u L' s') ⊎ ((rank : List ℕ) × (length rank ≤ darts g) × Crowd g here (hold g here L s) (member here L rank u))

  -- one more face
  module _ (rank via : List ℕ) (t : ℕ) (H : Held here rank via t) (from : (i : ℕ) → i < t → From g here L u rank via i) (d : ℕ) (l : d < length here) (w : Wants rank d) (new : nth rank (nth here d) < 1) where
    one_more : Listed here d rank via t (set rank (nth here d) (t + 1)) (set via t d) (t + 1)
    one_more = listed_more H d l new

    from_more : (i : ℕ) → i < t + 1 → From g here L u (set rank (nth here d) (t + 1)) (set via t d) i
    from_more i a = elim (dec_lt i t) [
      | yes q ↦ from_kept g L u one_more.grown i q (from i q)
      | no q ↦
          let e : nth (set via t d) i ≡ d = one_more.grown.new i (omega arith) a in
          rw e (⊎_elim (λ x. inl x) (λ x.
          let k : nth (set rank (nth here d) (t + 1)) (nth here (nth L (event g d))) ≡ nth rank (nth here (nth L (event g d))) = one_more.grown.kept (nth here (nth L (event g d))) x.1 in
          inr (x.0, (omega (arith, x.1), omega (arith, (H.found (nth here (nth L (event g d))) x.1).0)))) w)
    ]

  -- nothing more: a face with room, or a crowd
  closed : (rank via : List ℕ) (t : ℕ) → length rank ≡ faces g → Held here rank via t → ((i : ℕ) → i < t → From g here L u rank via i)
      → (((d : ℕ) × (d < length here) × (Wants rank d × (nth rank (nth here d) < 1))) → ⊥) → Finds
  closed rank via t ranks H from none = elim (any? t (λ i. 1 ≤ nth s (nth here (nth via i))) (λ i. dec_lt 0 (nth s (nth here (nth via i))))) [
    | yes i ↦
        let R : Way g here L s u rank via i.0 = record { end = t; held = H; inside = i.1; from = λ j a. from j (omega (arith, i.1)); spare = i.2 } in
        inl (shift i.0 L s i.0 (omega arith) (moving_start B K R free))
    | no no_room ↦
        let seen : (d : ℕ) → d < darts g → Wants rank d → Seen rank (nth here d) =
        λ d l w. elim (dec_lt (nth rank (nth here d)) 1) [ yes q ↦ absurd (none (d, omega (arith, B.keyed.size), (w, q))) | no q ↦ omega arith ] in
        let Q : Search g here L s u rank via t t = record {
          held = H;
          ranks = ranks;
          within = omega arith;
          from = from;
          full = λ i a. elim (dec_lt 0 (nth s (nth here (nth via i)))) [ yes q ↦ absurd (no_room (i, a, q)) | no q ↦ omega arith ];
          closed = λ i a d l w. seen d l (inr (w.0, rw w.1 (omega (arith, (H.entry i a).1))));
          first = λ d l e. seen d l (inl e);
        } in
        inr (rank, omega (arith, H.ranks, B.keyed.size), stuck B K Q (omega arith) u-in free)
  ]

  -- a face more at each step, up to all of them
  steps : (k : ℕ) (rank via : List ℕ) (t : ℕ) → faces g ≤ k + t → length rank ≡ faces g → Held here rank via t → ((i : ℕ) → i < t → From g here L u rank via i) → Finds
  steps zero rank via t b ranks H from = elim (any? (length here) (λ d. Wants rank d × (nth rank (nth here d) < 1)) (wants? rank)) [
    | yes d ↦ absurd (omega (arith, end_in H d.0 d.1 d.2.1))
    | no none ↦ closed rank via t ranks H from none
  ]
  steps (suc k) rank via t b ranks H from = elim (any? (length here) (λ d. Wants rank d × (nth rank (nth here d) < 1)) (wants? rank)) [
    | yes d ↦
        steps k (set rank (nth here d.0) (t + 1)) (set via t d.0) (t + 1) (omega arith) (length-set rank (nth here d.0) (t + 1) ∙ ranks)
        (one_more rank via t H from d.0 d.1 d.2.0 d.2.1).grown.held (from_more rank via t H from d.0 d.1 d.2.0 d.2.1)
    | no none ↦ closed rank via t ranks H from none
  ]

  pub find : Finds
  find =
      let zeros : List ℕ = replicate (faces g) 0 in
      let size : length zeros ≡ faces g = length-replicate (faces g) 0 in
      steps (faces g) zeros zeros 0 (omega arith) size
      (held_none (λ c l. omega (arith, here_into B c (omega (arith, B.keyed.size)), size)) (omega (arith, size, faces_few g, B.keyed.size)) refl (blank zeros (faces g) refl))
      (λ i a. absurd (omega arith))

-- ---- all poles

module _ {g : Drawing} {here : List ℕ} (poles : ℕ → ℕ) (B : Board g here) (room : List ℕ) (size : length room ≡ faces g) where
  abbrev Crowded : Type 0
  Crowded = (S : ℕ → ℕ) × Crowd g here (nth room) S × ((v : ℕ) → v < g.events → S v ≤ 1) × ((v : ℕ) → v < g.events → 1 ≤ S v → poles v ≡ 1)

  upto : (e : ℕ) → e ≤ g.events → ((L : List ℕ) × (s : List ℕ) × Sofar g here poles (nth room) e L s) ⊎ Crowded
  upto zero l =
      let none : List ℕ = replicate g.events (darts g) in
      inl (none, room, settle_start poles B none room (length-replicate g.events (darts g)) size (λ v k. omega (arith, get_or-replicate {A = ℕ} g.events v (darts g) 0 k)))
  upto (suc e) l = ⊎_elim
      (λ (x : (L : List ℕ) × (s : List ℕ) × Sofar g here poles (nth room) e L s).
      let b : e < g.events = omega arith in
      elim (ℕ_discrete (poles e) 1) [
        | no d ↦ inl (x.0, x.1, rw (add-one e) at (settle_skip x.2 b d))
        | yes p ↦ elim (dec_lt (nth x.0 e) (darts g)) [
          | yes h ↦ inl (x.0, x.1, rw (add-one e) at (settle_kept x.2 b h))
          | no h ↦ ⊎_elim
              (λ (y : (L' : List ℕ) × (s' : List ℕ) × Placed g here x.0 x.1 e L' s'). inl (y.0, y.1, rw (add-one e) at (settle_add x.2 b p y.2)))
              (λ (y : (rank : List ℕ) × (length rank ≤ darts g) × Crowd g here (hold g here x.0 x.1) (member here x.0 rank e)).
              inr (member here x.0 y.0 e, settle_crowd x.2 y.2, (λ v k. omega arith), settle_poles x.2 p y.0 B y.1))
              (find e B x.2.valid b (omega arith))
        ]
      ])
      (λ x. inr x)
      (upto e (omega arith))

  pub placement_or_crowd : ((L : List ℕ) × All g here poles (nth room) L) ⊎ Crowded
  placement_or_crowd = ⊎_elim (λ (x : (L : List ℕ) × (s : List ℕ) × Sofar g here poles (nth room) g.events L s). inl (x.0, settle_done x.2 (omega arith))) (λ x. inr x) (upto g.events (omega arith))
