-- Moving events one by one along the way of a search, each from one face to another: every step keeps a valid placement. Assumes nothing.
use mathlib.Core.Path.{◌≡◌, refl, sym, ap, ◌∙◌, subst}
use mathlib.Core.Logic.{◌≢◌, ◌⊎◌, inl, inr, ⊎_elim}
use mathlib.Core.List.{List}
use Prim.Native.Nat.{ℕ, zero, suc, ◌+◌, ◌-◌, ◌≤◌, ◌<◌}
use native.Mathlib.Decide.{ℕ_discrete}
use native.Mathlib.Omega.{arith}
use lib.ListN.{length, set, length-set}
use lib.Seq.{get_or-set_same, get_or-set_other}
use Rattle.finite.specs.Sums.{δ}
use Rattle.finite.proofs.Sum.{sum_change, δ-eq, δ_other, δ_same}
use Rattle.drawing.specs.Drawing.{Drawing, darts, event, faces}
use Rattle.words.specs.Tables.{nth}
use Rattle.chart.proofs.Keys.{faces_few}
use Rattle.placing.specs.Board.{Board, Own, face_of, load, hold, Valid}
use Rattle.placing.specs.Search.{Seen, From, Way, Placed}
use Rattle.placing.proofs.Boards.{face_of_lem, face-none, here_into}
use Rattle.placing.proofs.Listing.{ends_few}

-- ---- what a store changes

pub load_set : (g : Drawing) (here L : List ℕ) (v c x : ℕ) → length L ≡ g.events → v < g.events
    → load g here L x + δ (face_of here c) x ≡ load g here (set L v c) x + δ (face_of here (nth L v)) x
load_set g here L v c x e l =
    rw (get_or-set_same L v c 0 (omega arith)) at
    (sum_change g.events (λ i. δ (face_of here (nth L i)) x) (λ i. δ (face_of here (nth (set L v c) i)) x) v l
    (λ i k d. ap (λ (y : ℕ). δ (face_of here y) x) (sym (get_or-set_other L v i c 0 d))))

less_one : (s : List ℕ) (f x : ℕ) → f < length s → 1 ≤ nth s f → nth (set s f (nth s f - 1)) x + δ f x ≡ nth s x
less_one s f x l p = elim (ℕ_discrete x f) [
  | yes e ↦ omega (arith, ap (nth (set s f (nth s f - 1))) e, get_or-set_same s f (nth s f - 1) 0 l, ap (nth s) e, δ-eq f x (sym e))
  | no d ↦ omega (arith, get_or-set_other s f x (nth s f - 1) 0 d, δ_other f x (λ q. d (sym q)))
]

more_one : (s : List ℕ) (f x : ℕ) → f < length s → nth (set s f (nth s f + 1)) x ≡ nth s x + δ f x
more_one s f x l = elim (ℕ_discrete x f) [
  | yes e ↦ omega (arith, ap (nth (set s f (nth s f + 1))) e, get_or-set_same s f (nth s f + 1) 0 l, ap (nth s) e, δ-eq f x (sym e))
  | no d ↦ omega (arith, get_or-set_other s f x (nth s f + 1) 0 d, δ_other f x (λ q. d (sym q)))
]

-- ---- a seat: the corner c of the event e, whose face f has room

pub record Seat (g : Drawing) (here L s : List ℕ) (e c f : ℕ) : Type 0 where
  pub board : Board g here
  pub valid : Valid g L s
  pub inside : c < darts g
  pub own : e ≡ event g c
  pub face : f ≡ nth here c
  pub room : 1 ≤ nth s f

-- the event takes it
module _ {g : Drawing} {here L s : List ℕ} {e c f : ℕ} (T : Seat g here L s e c f) where
  pub event_in : e < g.events
  event_in = omega (arith, T.own, T.board.known c T.inside)

  pub face_in : f < faces g
  face_in = omega (arith, T.face, here_into T.board c T.inside)

  now_there : nth (set L e c) e ≡ c
  now_there = get_or-set_same L e c 0 (omega (arith, T.valid.events, event_in))

  other : (v : ℕ) → v ≢ e → nth (set L e c) v ≡ nth L v
  other v d = get_or-set_other L e v c 0 d

  own₁ : Own g (set L e c)
  own₁ v l = elim (ℕ_discrete v e) [
    | yes q ↦ inr (rw (q, now_there) (T.inside, sym T.own))
    | no d ↦ rw (other v d) (T.valid.own v l)
  ]

  valid₁ : {s' : List ℕ} → length s' ≡ faces g → Valid g (set L e c) s'
  valid₁ k = record { events = length-set L e c ∙ T.valid.events; keys = k; own = own₁ }

  faces₁ : length (set s f (nth s f - 1)) ≡ faces g
  faces₁ = length-set s f (nth s f - 1) ∙ T.valid.keys

  none₁ : (v : ℕ) → v ≢ e → darts g ≤ nth L v → darts g ≤ nth (set L e c) v
  none₁ v d z = rw (other v d) z

  still₁ : (v : ℕ) → nth L v < darts g → nth (set L e c) v < darts g
  still₁ v z = elim (ℕ_discrete v e) [
    | yes q ↦ rw (q, now_there) T.inside
    | no q ↦ rw (other v q) z
  ]

  -- what changes in the face x
  load₁ : (x : ℕ) → load g here L x + δ f x ≡ load g here (set L e c) x + δ (face_of here (nth L e)) x
  load₁ x =
      let q : face_of here c ≡ f = face_of_lem here c (omega (arith, T.inside, T.board.keyed.size)) ∙ sym T.face in
      rw q at (load_set g here L e c x T.valid.events event_in)

  spare₁ : (x : ℕ) → nth (set s f (nth s f - 1)) x + δ f x ≡ nth s x
  spare₁ x = less_one s f x (omega (arith, T.valid.keys, face_in)) T.room

  -- it had no place before
  pub placed_here : darts g ≤ nth L e → Placed g here L s e (set L e c) (set s f (nth s f - 1))
  placed_here free = record {
    valid = valid₁ faces₁;
    total = λ x l. omega (arith, load₁ x, spare₁ x, δ_other (face_of here (nth L e)) x (omega (arith, nowhere, T.board.keyed.size, faces_few g)));
    placed = rw now_there T.inside;
    none = λ v l d z. none₁ v d z;
    still = λ v l d z. still₁ v z;
  }
    where
      nowhere : face_of here (nth L e) ≡ length here
      nowhere = face-none here (nth L e) (omega (arith, free, T.board.keyed.size))

-- ---- the state of the moves: the placement L with the room s, after moves from L₀ and s₀; the face at place i of the list has room

pub record Moving (g : Drawing) (here L₀ s₀ : List ℕ) (u : ℕ) (rank via L s : List ℕ) (i : ℕ) : Type 0 where
  pub board : Board g here
  pub valid : Valid g L s
  pub way : Way g here L s u rank via i
  pub free : darts g ≤ nth L u
  pub total : (f : ℕ) → f < faces g → hold g here L s f ≡ hold g here L₀ s₀ f
  pub none : (v : ℕ) → v < g.events → v ≢ u → darts g ≤ nth L₀ v → darts g ≤ nth L v
  pub still : (v : ℕ) → v < g.events → v ≢ u → nth L₀ v < darts g → nth L v < darts g

pub moving_start : {g : Drawing} {here L s : List ℕ} {u : ℕ} {rank via : List ℕ} {i : ℕ} → Board g here → Valid g L s → Way g here L s u rank via i → darts g ≤ nth L u
    → Moving g here L s u rank via L s i
moving_start B W R z = record { board = B; valid = W; way = R; free = z; total = λ f l. refl; none = λ v l d e. e; still = λ v l d e. e }

module _ {g : Drawing} {here L₀ s₀ : List ℕ} {u : ℕ} {rank via L s : List ℕ} {i : ℕ} (M : Moving g here L₀ s₀ u rank via L s i) where
  pub place_in : i < length via
  place_in = omega (arith, ends_few M.way.held, M.way.inside, M.way.held.vias)

  pub spare_few : (f : ℕ) → f < faces g → nth s f ≤ hold g here L₀ s₀ f
  spare_few f l = omega (arith, M.total f l)

  -- the corner c of entry i, its event e and its face f
  module _ {c : ℕ} (is_c : c ≡ nth via i) where
    pub corner_in : c < darts g
    corner_in = omega (arith, (M.way.held.entry i M.way.inside).0, M.board.keyed.size)

    module _ {e : ℕ} (is-e : e ≡ event g c) {f : ℕ} (is_f : f ≡ nth here c) where
      pub seat : Seat g here L s e c f
      seat = record {
        board = M.board;
        valid = M.valid;
        inside = corner_in;
        own = is-e;
        face = is_f;
        room = omega (arith, M.way.spare, ap (nth s) (is_f ∙ ap (nth here) is_c));
      }

      came : (e ≡ u) ⊎ ((nth L e < darts g) × ((Seen rank (nth here (nth L e))) × (nth rank (nth here (nth L e)) ≤ i)))
      came =
          subst (λ (x : ℕ). (x ≡ u) ⊎ ((nth L x < darts g) × ((Seen rank (nth here (nth L x))) × (nth rank (nth here (nth L x)) ≤ i))))
          (sym (is-e ∙ ap (event g) is_c)) (M.way.from i (omega arith))

      -- the event is u: it is placed
      pub landed : e ≡ u → Placed g here L₀ s₀ u (set L e c) (set s f (nth s f - 1))
      landed last =
          let P : Placed g here L s u (set L e c) (set s f (nth s f - 1)) =
          subst (λ (x : ℕ). Placed g here L s x (set L e c) (set s f (nth s f - 1))) last (placed_here seat (omega (arith, ap (nth L) last, M.free))) in
          record {
            valid = P.valid;
            total = λ x l. P.total x l ∙ M.total x l;
            placed = P.placed;
            none = λ v l d z. P.none v l d (M.none v l d z);
            still = λ v l d z. P.still v l d (M.still v l d z);
          }

      -- it is another: it leaves the face h, where it was at the corner old
      module _ (more : e ≢ u) {old : ℕ} (is-old : old ≡ nth L e) where
        left : (nth L e < darts g) × ((Seen rank (nth here (nth L e))) × (nth rank (nth here (nth L e)) ≤ i))
        left = ⊎_elim (λ a. absurd (more a)) (λ b. b) came

        pub old_in : old < darts g
        old_in = omega (arith, left.0)

        module _ {h : ℕ} (is-h : h ≡ nth here old) where
          same_h : h ≡ nth here (nth L e)
          same_h = is-h ∙ ap (nth here) is-old

          pub old_face : h < faces g
          old_face = omega (arith, here_into M.board old old_in)

          pub old_rank : (1 ≤ nth rank h) × (nth rank h ≤ i)
          old_rank = rw same_h left.1

          module _ {a : ℕ} (is-a : a ≡ nth s f) {s₁ : List ℕ} (stored : s₁ ≡ set s f (a - 1)) where
            is_s : s₁ ≡ set s f (nth s f - 1)
            is_s = stored ∙ ap (λ (x : ℕ). set s f (x - 1)) is-a

            size₁ : length s₁ ≡ faces g
            size₁ = ap length is_s ∙ faces₁ seat

            pub old_size : h < length s₁
            old_size = omega (arith, size₁, old_face)

            pub old_few : nth s₁ h ≤ hold g here L₀ s₀ h
            old_few = omega (arith, ap (λ (y : List ℕ). nth y h) is_s, spare₁ seat h, M.total h old_face)

            more₁ : (x : ℕ) → nth (set s₁ h (nth s₁ h + 1)) x ≡ nth s₁ x + δ h x
            more₁ x = more_one s₁ h x (omega (arith, size₁, old_face))

            total₂ : (x : ℕ) → x < faces g → hold g here (set L e c) (set s₁ h (nth s₁ h + 1)) x ≡ hold g here L s x
            total₂ x l =
                let z : face_of here (nth L e) ≡ h = face_of_lem here (nth L e) (omega (arith, left.0, M.board.keyed.size)) ∙ sym same_h in
                omega (arith, load₁ seat x, spare₁ seat x, more₁ x, ap (λ (y : ℕ). δ y x) z, ap (λ (y : List ℕ). nth y x) is_s)

            from₂ : (j : ℕ) → j ≤ nth rank h - 1 → From g here (set L e c) u rank via j
            from₂ j l =
                let k : (1 ≤ nth rank h) × (nth rank h ≤ i) = old_rank in
                ⊎_elim (λ a. inl a)
                (λ b. inr (rw (other seat (event g (nth via j)) (λ q. absurd (omega (arith, b.1.1, ap (λ (z : ℕ). nth rank (nth here (nth L z))) q, ap (nth rank) same_h)))) b))
                (M.way.from j (omega arith))

            pub moved : Moving g here L₀ s₀ u rank via (set L e c) (set s₁ h (nth s₁ h + 1)) (nth rank h - 1)
            moved = record {
              board = M.board;
              valid = valid₁ seat (length-set s₁ h (nth s₁ h + 1) ∙ size₁);
              way = record {
                end = M.way.end;
                held = M.way.held;
                inside = omega (arith, old_rank.1, old_rank.0, M.way.inside);
                from = from₂;
                spare =
                    let q : nth here (nth via (nth rank h - 1)) ≡ h = (M.way.held.found h old_rank.0).1 in
                    rw q (omega (arith, more₁ h, δ_same h));
              };
              free = none₁ seat u (λ q. more (sym q)) M.free;
              total = λ x l. total₂ x l ∙ M.total x l;
              none = λ v l d z. let p : darts g ≤ nth L v = M.none v l d z in none₁ seat v (λ q. omega (arith, left.0, ap (nth L) q)) p;
              still = λ v l d z. still₁ seat v (M.still v l d z);
            }

-- ---- the moves end: u is placed

pub shift : {g : Drawing} {here L₀ s₀ : List ℕ} {u : ℕ} {rank via : List ℕ} (k : ℕ) (L s : List ℕ) (i : ℕ) → i ≤ k → Moving g here L₀ s₀ u rank via L s i
    → (L' : List ℕ) × (s' : List ℕ) × Placed g here L₀ s₀ u L' s'
shift {g} {u = u} {via = via} zero L s i l M = elim (ℕ_discrete (event g (nth via i)) u) [
  | yes e ↦ (_, _, landed M refl refl refl e)
  | no d ↦ let r = old_rank M refl refl refl d refl refl in absurd (omega (arith, r.0, r.1))
]
shift {g} {u = u} {via = via} (suc k) L s i l M = elim (ℕ_discrete (event g (nth via i)) u) [
  | yes e ↦ (_, _, landed M refl refl refl e)
  | no d ↦
      let r = old_rank M refl refl refl d refl refl in
      shift k _ _ _ (omega (arith, r.0, r.1)) (moved M refl refl refl d refl refl refl refl)
]
