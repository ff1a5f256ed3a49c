-- Circles: a numbering that climbs along every arrow rules them out; where each event of a set has an arrow from the set there is one;
-- and where there is none, some numbering climbs. Assumes nothing.
--   back g into v          the event before v, where into v is an arrow that enters v
--   Turning g into s       going back from s comes to s again, along arrows of the drawing
--   Turn g into s m        it does so after m steps, and not before
use mathlib.Core.Path.{◌≡◌, refl, sym, ap, ◌∙◌}
use mathlib.Core.Logic.{◌≢◌, ◌↔◌, ◌⊎◌, inl, inr}
use mathlib.Core.List.{List, [], ◌∷◌, map, map-id}
use Prim.Native.Nat.{ℕ, zero, suc, ◌+◌, ◌-◌, ◌*◌, ◌<◌, ◌≤◌}
use native.Mathlib.Nat.{not-suc-le-zero}
use native.Mathlib.Decide.{ℕ_discrete, dec_lt}
use native.Mathlib.Omega.{arith}
use lib.ListN.{length, get_or}
use Rattle.finite.specs.Sums.{sum}
use Rattle.finite.specs.Steps.{iter, Inj}
use Rattle.finite.specs.Lists.{All, Distinct, LowestFirst}
use Rattle.finite.proofs.Decide.{any?, ¬?, ◌×?◌}
use Rattle.finite.proofs.Sum.{sum_term, sum_change}
use Rattle.finite.proofs.Perm.{pigeon}
use Rattle.finite.proofs.Filled.{table, table_length, table_at}
use Rattle.finite.proofs.Orbit.{iter-add, first, cycle, least-le, least_met}
use Rattle.drawing.specs.Drawing.{Drawing, arrows, tail, head}
use Rattle.drawing.specs.Conditions.{EventsKnown, Runs, Round, Circle, NoCircle}

-- ---- a numbering that climbs

abbrev pub Climbs : Drawing → (ℕ → ℕ) → Type 0
Climbs g rank = (a : ℕ) → a < arrows g → rank (tail g a) < rank (head g a)

climbed : (g : Drawing) (rank : ℕ → ℕ) → Climbs g rank → (u : ℕ) (l : List ℕ) (v : ℕ) → Runs g u l v → rank u + length l ≤ rank v
climbed g rank c u [] v h = omega (arith, ap rank h)
climbed g rank c u (a ∷ l) v h = omega (arith, c a h.0, ap rank h.1, climbed g rank c (head g a) l v h.2)

pub climbs_none : (g : Drawing) (rank : ℕ → ℕ) → Climbs g rank → NoCircle g
climbs_none g rank c l C = go l C.round
  where
    go : (l : List ℕ) → Round g l → ⊥
    go [] r = r
    go (a ∷ l) r = omega (arith, climbed g rank c (tail g a) (a ∷ l) (tail g a) r)

-- ---- lists by their entries

abbrev at : List ℕ → ℕ → ℕ
at l i = get_or l i 0

all_of : (P : ℕ → Type 0) (f : ℕ → ℕ) (l : List ℕ) → ((i : ℕ) → i < length l → P (f (at l i))) → All P (map f l)
all_of P f [] h = tt
all_of P f (x ∷ l) h = (h 0 (omega arith), all_of P f l (λ i k. h (suc i) (omega arith)))

distinct_of : (f : ℕ → ℕ) (l : List ℕ) → Inj (length l) (λ i. f (at l i)) → Distinct (map f l)
distinct_of f [] inj = tt
distinct_of f (x ∷ l) inj = (
  all_of (λ y. f x ≢ y) f l (λ i k q. let z : 0 ≡ suc i = inj 0 (suc i) (omega arith) (omega arith) q in omega arith),
  distinct_of f l (λ i j a b q. let z : suc i ≡ suc j = inj (suc i) (suc j) (omega arith) (omega arith) q in omega arith),
)

lowest_of : (l : List ℕ) → ((i : ℕ) → i < length l → at l 0 ≤ at l i) → LowestFirst l
lowest_of [] h = tt
lowest_of (x ∷ l) h = rw (map-id l) at (all_of (λ y. x ≤ y) (λ a. a) l (λ i k. h (suc i) (omega arith)))

runs_of : (g : Drawing) (a : ℕ) (l : List ℕ) (v : ℕ) → ((i : ℕ) → i < length (a ∷ l) → at (a ∷ l) i < arrows g)
    → ((i : ℕ) → suc i < length (a ∷ l) → head g (at (a ∷ l) i) ≡ tail g (at (a ∷ l) (suc i))) → head g (at (a ∷ l) (length l)) ≡ v → Runs g (tail g a) (a ∷ l) v
runs_of g a [] v known joins last = (known 0 (omega arith), refl, last)
runs_of g a (b ∷ l) v known joins last = (
  known 0 (omega arith),
  refl,
  rw (joins 0 (omega arith)) (runs_of g b l v (λ i k. known (suc i) (omega arith)) (λ i k. joins (suc i) (omega arith)) last),
)

pub round_of : (g : Drawing) (l : List ℕ) → 0 < length l → ((i : ℕ) → i < length l → at l i < arrows g)
    → ((i : ℕ) → suc i < length l → head g (at l i) ≡ tail g (at l (suc i))) → head g (at l (length l - 1)) ≡ tail g (at l 0) → Round g l
round_of g [] some known joins closes = absurd (not-suc-le-zero some)
round_of g (a ∷ l) some known joins closes =
    let e : length (a ∷ l) - 1 ≡ length l = omega arith in
    runs_of g a l (tail g a) known joins (rw e at closes)

-- ---- going back along one entering arrow of each event

abbrev pub back : Drawing → (ℕ → ℕ) → ℕ → ℕ
back g into v = tail g (into v)

abbrev pub before : Drawing → (ℕ → ℕ) → ℕ → ℕ → ℕ
before g into s k = iter (back g into) k s

-- into v is an arrow that enters v
abbrev pub Enters : Drawing → (ℕ → ℕ) → ℕ → Type 0
Enters g into v = (into v < arrows g) × (head g (into v) ≡ v)

pub record Turning (g : Drawing) (into : ℕ → ℕ) (s : ℕ) : Type 0 where
  pub each : (k : ℕ) → Enters g into (before g into s k)
  pub span : ℕ
  pub some : 0 < span
  pub returns : before g into s span ≡ s

pub record Turn (g : Drawing) (into : ℕ → ℕ) (s m : ℕ) : Type 0 where
  pub each : (k : ℕ) → Enters g into (before g into s k)
  pub some : 0 < m
  pub returns : before g into s m ≡ s
  pub fresh : (j : ℕ) → 0 < j → j < m → before g into s j ≢ s

-- ---- from the turn to the circle: its arrows in order, the arrow into s first

module _ (g : Drawing) (into : ℕ → ℕ) (s m : ℕ) (T : Turn g into s m) where
  abbrev y : ℕ → ℕ
  y k = before g into s k

  again : (k : ℕ) → y (k + m) ≡ y k
  again k = iter-add (back g into) k m s ∙ ap (iter (back g into) k) T.returns

  -- what stands before an event of the turn tells the event
  twice : (i j : ℕ) → i < j → j < m → y i ≡ y j → ⊥
  twice i j l h q =
      let split : m - j + j ≡ m = omega arith in
      T.fresh (m - j + i) (omega arith) (omega arith)
      (iter-add (back g into) (m - j) i s ∙ ap (iter (back g into) (m - j)) q ∙ sym (iter-add (back g into) (m - j) j s) ∙ ap y split ∙ T.returns)

  heads_once : (i j : ℕ) → i < m → j < m → y (m - i) ≡ y (m - j) → i ≡ j
  heads_once i j a b q = elim (dec_lt i j) [
    | yes l ↦ absurd (less i j l b q)
    | no l ↦ elim (dec_lt j i) [ yes l' ↦ absurd (less j i l' a (sym q)) | no l' ↦ omega arith ]
  ]
    where
      less : (i j : ℕ) → i < j → j < m → y (m - i) ≡ y (m - j) → ⊥
      less i j l h q = elim (ℕ_discrete i 0) [
        | yes z ↦
            let e : m - i ≡ m = omega arith in
            T.fresh (m - j) (omega arith) (omega arith) (sym q ∙ ap y e ∙ T.returns)
        | no z ↦ twice (m - j) (m - i) (omega arith) (omega arith) (sym q)
      ]

  module _ (l : List ℕ) (size : length l ≡ m) (entry : (i : ℕ) → i < m → at l i ≡ into (y (m - i))) where
    head_at : (i : ℕ) → i < m → head g (at l i) ≡ y (m - i)
    head_at i h = ap (head g) (entry i h) ∙ (T.each (m - i)).1

    tail_at : (i : ℕ) → i < m → tail g (at l i) ≡ y (suc (m - i))
    unfolding iter
    tail_at i h = ap (tail g) (entry i h)

    tails_once : (i j : ℕ) → i < m → j < m → tail g (at l i) ≡ tail g (at l j) → i ≡ j
    tails_once i j a b q = heads_once i j a b (up (m - i) ∙ ap (iter (back g into) (m - 1)) (sym (tail_at i a) ∙ q ∙ tail_at j b) ∙ sym (up (m - j)))
      where
        up : (k : ℕ) → y k ≡ iter (back g into) (m - 1) (y (suc k))
        up k =
            let e : m - 1 + suc k ≡ k + m = omega (arith, T.some) in
            sym (again k) ∙ ap y (sym e) ∙ iter-add (back g into) (m - 1) (suc k) s

    pub turn_circle : Circle g l
    turn_circle = record {
      distinct = rw (map-id l) at (distinct_of (λ a. a) l (λ i j a b q. tails_once i j (omega arith) (omega arith) (ap (tail g) q)));
      round = round_of g l (omega (arith, T.some)) (λ i h. rw (entry i (omega arith)) (T.each (m - i)).0)
          (λ i h.
          let e : m - i ≡ suc (m - suc i) = omega arith in
          head_at i (omega arith) ∙ ap y e ∙ sym (tail_at (suc i) (omega arith)))
          (let some : 0 < m = T.some in
          let last : m - (length l - 1) ≡ 1 = omega arith in
          let none : suc (m - 0) ≡ 1 + m = omega arith in
          head_at (length l - 1) (omega arith) ∙ ap y last ∙ sym (again 1) ∙ ap y (sym none) ∙ sym (tail_at 0 some));
    }

    -- no event is passed twice
    pub turn_tails : Distinct (map (tail g) l)
    turn_tails = distinct_of (tail g) l (λ i j a b q. tails_once i j (omega arith) (omega arith) q)

    pub turn-lowest : ((k : ℕ) → into s ≤ into (y k)) → LowestFirst l
    turn-lowest low =
        lowest_of l (λ i h.
        let some : 0 < m = T.some in
        let e : m - 0 ≡ m = omega arith in
        let z : at l 0 ≡ into s = entry 0 some ∙ ap (λ (k : ℕ). into (y k)) e ∙ ap into T.returns in
        omega (arith, low (m - i), entry i (omega arith)))

-- ---- some turn, and its lowest arrow

module _ (g : Drawing) (into : ℕ → ℕ) where
  pub first_turn : (s : ℕ) → Turning g into s → (m : ℕ) × Turn g into s m
  first_turn s T = go (first (suc T.span) Back (λ k. dec_lt 0 k ×? ℕ_discrete (before g into s k) s))
    where
      Back : ℕ → Type 0
      Back k = (0 < k) × (before g into s k ≡ s)

      go : ((m : ℕ) × (m < suc T.span) × Back m × ((k : ℕ) → k < m → Back k → ⊥)) ⊎ ((k : ℕ) → k < suc T.span → Back k → ⊥) → (m : ℕ) × Turn g into s m
      go (inl t) = (t.0, record { each = T.each; some = t.2.0; returns = t.2.1; fresh = λ j a b q. t.3 j b (a, q) })
      go (inr none) = absurd (none T.span (omega arith) (T.some, T.returns))

  -- an event that turns takes every event before it along
  pub turning_before : (s k : ℕ) → Turning g into s → Turning g into (before g into s k)
  turning_before s k T = record {
    each = λ j. rw (iter-add (back g into) j k s) at (T.each (j + k));
    span = T.span;
    some = T.some;
    returns =
        let e : T.span + k ≡ k + T.span = omega arith in
        sym (iter-add (back g into) T.span k s) ∙ ap (before g into s) e ∙ iter-add (back g into) k T.span s ∙ ap (iter (back g into) k) T.returns;
  }

  -- as many steps back as there are events lead onto a circle
  pub far_turns : (n e : ℕ) → ((k : ℕ) → Enters g into (before g into e k) × (before g into e k < n)) → Turning g into (before g into e n)
  far_turns n e each =
      let t = pigeon (suc n) n (before g into e) (λ k h. (each k).1) (omega arith) in
      let j : ℕ = t.0 in
      let i : ℕ = t.2.0 in
      let jn : j < suc n = t.1 in
      let ij : i < j = t.2.1 in
      let a : n - i + i ≡ n = omega arith in
      let b : j - i + n ≡ n - i + j = omega arith in
      record {
        each = λ k. rw (iter-add (back g into) k n e) at (each (k + n)).0;
        span = j - i;
        some = omega arith;
        returns =
            sym (iter-add (back g into) (j - i) n e) ∙ ap (before g into e) b ∙ iter-add (back g into) (n - i) j e
            ∙ ap (iter (back g into) (n - i)) (sym t.2.2) ∙ sym (iter-add (back g into) (n - i) i e) ∙ ap (before g into e) a;
      }

  abbrev pub Lowest : ℕ → Type 0
  Lowest s = (k : ℕ) → into s ≤ into (before g into s k)

  lowest_turning : (s : ℕ) → Turning g into s → (r : ℕ) × Turning g into r × Lowest r
  lowest_turning s T =
      let t = least_met T.span (λ k. into (before g into s k)) in (
        before g into s t.0,
        turning_before s t.0 T,
        λ k.
            let c = cycle (back g into) s T.span T.some T.returns (k + t.0) in
            let h : c.0 < T.span = c.1 in
            omega (arith, t.2, least-le T.span (λ k. into (before g into s k)) c.0 (omega arith), ap into c.2, ap into (iter-add (back g into) k t.0 s)),
      )

-- ---- a set of events, each with an entering arrow from the set: v is in the set where S v is not 0

-- a circle with its lowest arrow first, which passes no event twice
pub record Simple (g : Drawing) (l : List ℕ) : Type 0 where
  pub circle : Circle g l
  pub lowest : LowestFirst l
  pub tails : Distinct (map (tail g) l)

abbrev Entry : Drawing → (ℕ → ℕ) → ℕ → Type 0
Entry g S v = (a : ℕ) × (a < arrows g) × ((head g a ≡ v) × (0 < S (tail g a)))

module _ (g : Drawing) (S : ℕ → ℕ) (small : (v : ℕ) → 0 < S v → v < g.events) (entry : (v : ℕ) → 0 < S v → Entry g S v) where
  choose : (v : ℕ) → Dec (0 < S v) → ℕ
  choose v (yes h) = (entry v h).0
  choose v (no h) = 0

  chosen : (v : ℕ) (d : Dec (0 < S v)) → 0 < S v → (choose v d < arrows g) × (head g (choose v d) ≡ v) × (0 < S (tail g (choose v d)))
  unfolding choose
  chosen v (yes h) l = ((entry v h).1, (entry v h).2.0, (entry v h).2.1)
  chosen v (no h) l = absurd (h l)

  abbrev into : ℕ → ℕ
  into v = choose v (dec_lt 0 (S v))

  inside : (v : ℕ) → 0 < S v → (k : ℕ) → 0 < S (before g into v k)
  unfolding iter
  inside v l zero = l
  inside v l (suc k) = let u = before g into v k in (chosen u (dec_lt 0 (S u)) (inside v l k)).2

  pub set_circle : (v : ℕ) → 0 < S v → (l : List ℕ) × Simple g l
  set_circle v l =
      let T = far_turns g into g.events v (λ k. let u = before g into v k in let t = chosen u (dec_lt 0 (S u)) (inside v l k) in ((t.0, t.1), small u (inside v l k))) in
      let r = lowest_turning g into _ T in
      let t = first_turn g into r.0 r.1 in
      let f : ℕ → ℕ = λ i. into (before g into r.0 (t.0 - i)) in (
        table t.0 f,
        record {
          circle = turn_circle g into r.0 t.0 t.1 (table t.0 f) (table_length t.0 f) (table_at t.0 f);
          lowest = turn-lowest g into r.0 t.0 t.1 (table t.0 f) (table_length t.0 f) (table_at t.0 f) r.2;
          tails = turn_tails g into r.0 t.0 t.1 (table t.0 f) (table_length t.0 f) (table_at t.0 f);
        },
      )

-- ---- where there is no circle, some numbering climbs: events with no entering arrow from what is left are taken away one by one

without : (ℕ → ℕ) → (v x : ℕ) → Dec (x ≡ v) → ℕ
without S v x (yes q) = 0
without S v x (no q) = S x

raised : (ℕ → ℕ) → (v x : ℕ) → Dec (x ≡ v) → ℕ
raised rank v x (yes q) = 0
raised rank v x (no q) = suc (rank x)

without_kept : (S : ℕ → ℕ) (v x : ℕ) (d : Dec (x ≡ v)) → (x ≡ v → ⊥) → without S v x d ≡ S x
unfolding without
without_kept S v x (yes q) h = absurd (h q)
without_kept S v x (no q) h = refl

without_gone : (S : ℕ → ℕ) (v x : ℕ) (d : Dec (x ≡ v)) → x ≡ v → without S v x d ≡ 0
unfolding without
without_gone S v x (yes q) h = refl
without_gone S v x (no q) h = absurd (q h)

raised_less : (rank : ℕ → ℕ) (v x y : ℕ) (d : Dec (x ≡ v)) (e : Dec (y ≡ v)) → (y ≡ v → ⊥) → ((x ≡ v → ⊥) → rank x < rank y) → raised rank v x d < raised rank v y e
unfolding raised
raised_less rank v x y d (yes q) h up = absurd (h q)
raised_less rank v x y (yes p) (no q) h up = omega arith
raised_less rank v x y (no p) (no q) h up = omega (arith, up p)

module _ (g : Drawing) (known : EventsKnown g) (none : NoCircle g) where
  abbrev ClimbsIn : (ℕ → ℕ) → (ℕ → ℕ) → Type 0
  ClimbsIn S rank = (a : ℕ) → a < arrows g → 0 < S (tail g a) → 0 < S (head g a) → rank (tail g a) < rank (head g a)

  Entry? : (S : ℕ → ℕ) (v : ℕ) → Dec (Entry g S v)
  Entry? S v = any? (arrows g) (λ a. (head g a ≡ v) × (0 < S (tail g a))) (λ a. ℕ_discrete (head g a) v ×? dec_lt 0 (S (tail g a)))

  climbing : (k : ℕ) (S : ℕ → ℕ) → sum g.events S ≤ k → ((v : ℕ) → 0 < S v → v < g.events) → (rank : ℕ → ℕ) × ClimbsIn S rank
  climbing zero S few small = (λ v. 0, λ a l t h. absurd (omega (arith, sum_term g.events S (tail g a) (small (tail g a) t))))
  climbing (suc k) S few small =
      elim (any? g.events (λ v. (0 < S v) × (Entry g S v → ⊥)) (λ v. dec_lt 0 (S v) ×? ¬? (Entry? S v))) [
        | yes t ↦
            let v : ℕ = t.0 in
            let S' : ℕ → ℕ = λ x. without S v x (ℕ_discrete x v) in
            let gone : S' v ≡ 0 = without_gone S v v (ℕ_discrete v v) refl in
            let kept : (x : ℕ) → (x ≡ v → ⊥) → S' x ≡ S x = λ x. without_kept S v x (ℕ_discrete x v) in
            let r = climbing k S'
            (omega (arith, sum_change g.events S S' v t.1 (λ i l d. sym (kept i d)), t.2.0))
            (λ x h. elim (ℕ_discrete x v) [ yes e ↦ rw e t.1 | no e ↦ small x (rw (kept x e) at h) ]) in (
              λ x. raised r.0 v x (ℕ_discrete x v),
              λ a l from to.
                  let other : head g a ≡ v → ⊥ = λ q. t.2.1 (a, l, (q, from)) in
                  raised_less r.0 v (tail g a) (head g a) (ℕ_discrete (tail g a) v) (ℕ_discrete (head g a) v) other
                  (λ d. r.1 a l (rw (kept (tail g a) d) from) (rw (kept (head g a) other) to)),
            )
        | no all ↦ (
          λ v. 0,
          λ a l from to.
              absurd (let c = set_circle g S small (λ v h. elim (Entry? S v) [ yes e ↦ e | no e ↦ absurd (all (v, small v h, (h, e))) ]) (head g a) to in none c.0 c.1.circle),
        )
      ]

  -- all events: those at which the number of events less v is not 0
  pub climbing_some : (rank : ℕ → ℕ) × Climbs g rank
  climbing_some =
      let S : ℕ → ℕ = λ v. g.events - v in
      let r = climbing (sum g.events S) S (omega arith) (λ v h. omega arith) in
      (r.0, λ a l. let t = known (2 * a) (omega arith) in let h = known (2 * a + 1) (omega arith) in r.1 a l (omega (arith, t)) (omega (arith, h)))

-- there is no circle exactly if some numbering climbs
pub no_circle_climbs : (g : Drawing) → EventsKnown g → NoCircle g ↔ ((rank : ℕ → ℕ) × Climbs g rank)
no_circle_climbs g known = (climbing_some g known, λ r. climbs_none g r.0 r.1)
