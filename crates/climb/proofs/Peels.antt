-- The laws of the worklist of test 13. Assumes nothing.
--   Around g left list h t f c      going round the event at place h from its dart f, the arrows of the darts before c are gone
use mathlib.Core.Path.{◌≡◌, refl, sym, ap, ◌∙◌}
use mathlib.Core.Logic.{◌≢◌}
use mathlib.Core.List.{List}
use Prim.Native.Nat.{ℕ, suc, ◌+◌, ◌-◌, ◌*◌, ◌/◌, ◌%◌, ◌<◌, ◌≤◌}
use native.Mathlib.Nat.{one-mul}
use native.Mathlib.Decide.{ℕ_discrete, dec_lt}
use native.Mathlib.Numerals.{add-one}
use native.Mathlib.Omega.{arith}
use borrow.Author.Count.{below_more}
use lib.ListN.{length, set, length-set}
use lib.Seq.{get_or-set_same, get_or-set_other}
use Rattle.finite.specs.Sums.{sum, δ}
use Rattle.finite.specs.Steps.{iter, Inj, Into}
use Rattle.finite.proofs.Sum.{sum_cong, sum_mono, sum_const, δ-eq, δ_other, δ-le}
use Rattle.finite.proofs.Perm.{inj_le, onto}
use Rattle.finite.proofs.Class.{class_term, class_total, class_some}
use Rattle.finite.proofs.Walk.{Walk, walk_start, walk_step, walk_into}
use Rattle.drawing.specs.Drawing.{Drawing, darts, arrows, event, after, tail, head, twin, enters, leaves}
use Rattle.drawing.specs.Conditions.{EventsKnown, Rings}
use Rattle.drawing.proofs.Rounds.{after_inj}
use Rattle.words.specs.Tables.{nth}
use Rattle.chart.specs.Held.{Firsts}
use Rattle.climb.specs.Peel.{toward, comers, between, Waiting, Ready, Same, Freed, entered, fewer, last, Held, Peeled}
use Rattle.finite.proofs.Ahead.{ahead}
use Rattle.finite.proofs.Along.{along_le, along_all}
use Rattle.climb.proofs.Changes.{ring_sum, ring_part, ring_nearer}

-- ---- darts and arrows

pub toward-enters : (g : Drawing) (v c : ℕ) → enters c ≡ 1 → toward g v c ≡ 0
unfolding toward
toward-enters g v c q = let z : leaves c ≡ 0 = omega arith in rw z (omega arith)

pub toward-leaves : (g : Drawing) (v c : ℕ) → enters c ≡ 0 → toward g v c ≡ δ (event g (c + 1)) v
unfolding toward twin
toward-leaves g v c q =
    let o : leaves c ≡ 1 = omega arith in
    let t : c + 1 - 2 * (c % 2) ≡ c + 1 = omega arith in
    rw (o, t) (one-mul (δ (event g (c + 1)) v))

pub toward-le : (g : Drawing) (v c : ℕ) → toward g v c ≤ 1
toward-le g v c = elim (ℕ_discrete (enters c) 0) [
  | yes q ↦ omega (arith, toward-leaves g v c q, δ-le (event g (c + 1)) v)
  | no q ↦ omega (arith, toward-enters g v c (omega arith))
]

pub comers_few : (g : Drawing) (v : ℕ) → comers g v ≤ darts g
comers_few g v = omega (arith, sum_mono (darts g) (toward g v) (λ d. 1) (λ d l. toward-le g v d), sum_const (darts g) 1)

-- an arrow from its tail to its head
pub arrow_toward : (g : Drawing) (a : ℕ) → toward g (head g a) (2 * a) ≡ 1
arrow_toward g a = toward-leaves g (head g a) (2 * a) (omega arith) ∙ δ-eq (event g (2 * a + 1)) (head g a) refl

between_some : (g : Drawing) (a : ℕ) → a < arrows g → 0 < between g (tail g a) (head g a)
between_some g a l = omega (arith, class_term (darts g) (event g) (toward g (head g a)) (2 * a) (omega arith), arrow_toward g a)

pub between_arrow : (g : Drawing) (u v : ℕ) → darts g % 2 ≡ 0 → 0 < between g u v → (a : ℕ) × (a < arrows g) × ((tail g a ≡ u) × (head g a ≡ v))
between_arrow g u v even pos =
    let t = class_some (darts g) (event g) (toward g v) u pos in
    go t.0 t.1 t.2.0 t.2.1 (ℕ_discrete (enters t.0) 0)
  where
    go : (d : ℕ) → d < darts g → event g d ≡ u → 0 < toward g v d → Dec (enters d ≡ 0) → (a : ℕ) × (a < arrows g) × ((tail g a ≡ u) × (head g a ≡ v))
    go d l q some (no z) = absurd (omega (arith, toward-enters g v d (omega arith)))
    go d l q some (yes z) =
        let e : 2 * (d / 2) ≡ d = omega arith in
        elim (ℕ_discrete (event g (d + 1)) v) [
          | yes h ↦ (d / 2, omega arith, (rw e q, rw e h))
          | no h ↦ absurd (omega (arith, toward-leaves g v d z, δ_other (event g (d + 1)) v h))
        ]

pub comers-between : (g : Drawing) → EventsKnown g → (v : ℕ) → sum g.events (λ u. between g u v) ≡ comers g v
comers-between g known v = class_total (darts g) g.events (event g) (toward g v) known

-- ---- the list

module _ (left list : List ℕ) (t : ℕ) (W : Waiting left list t) where
  pub waiting_few : t ≤ length left
  waiting_few = inj_le t (length left) (nth list) W.once W.inside

  -- an event with arrows left is not on the list, so there is room for it
  waiting_room : (e : ℕ) → e < length left → 0 < nth left e → t < length list
  waiting_room e l pos = elim (dec_lt t (length left)) [
    | yes h ↦ omega (arith, W.room)
    | no h ↦
        let q : t ≡ length left = omega (arith, waiting_few) in
        let m = onto t (nth list) W.once (λ i k. rw (← q) at (W.inside i k)) e (omega arith) in
        absurd (omega (arith, W.gone m.0 m.1, ap (nth left) m.2))
  ]

  -- one arrow less, and another one is left
  waiting_fewer : (e : ℕ) → e < length left → 1 < nth left e → Waiting (set left e (nth left e - 1)) list t
  waiting_fewer e l more = record {
    room = W.room ∙ sym size;
    inside = λ i h. rw size (W.inside i h);
    once = W.once;
    gone = λ i h. get_or-set_other left e (nth list i) (nth left e - 1) 0 (λ q. omega (arith, W.gone i h, ap (nth left) q)) ∙ W.gone i h;
    found = λ v h z. elim (ℕ_discrete v e) [
      | yes q ↦ absurd (omega (arith, ap (nth (set left e (nth left e - 1))) q, get_or-set_same left e (nth left e - 1) 0 l))
      | no q ↦ W.found v (omega (arith, size)) (sym (get_or-set_other left e v (nth left e - 1) 0 q) ∙ z)
    ];
  }
    where
      size : length (set left e (nth left e - 1)) ≡ length left
      size = length-set left e (nth left e - 1)

  -- the last arrow
  waiting_last : (e : ℕ) → e < length left → 0 < nth left e → nth left e ≤ 1 → Waiting (set left e (nth left e - 1)) (set list t e) (t + 1)
  waiting_last e l some one = record {
    room = length-set list t e ∙ W.room ∙ sym size;
    inside = below_more (λ (i : ℕ). nth list' i < length left') t (λ i h. rw (old i h, size) (W.inside i h)) (rw (end, size) l);
    once = λ i j a b q. elim (ℕ_discrete i t) [
      | yes x ↦ elim (ℕ_discrete j t) [ yes y ↦ x ∙ sym y | no y ↦ absurd (new j (omega arith) (sym q ∙ ap (nth list') x ∙ end)) ]
      | no x ↦ elim (ℕ_discrete j t) [
        | yes y ↦ absurd (new i (omega arith) (q ∙ ap (nth list') y ∙ end))
        | no y ↦ W.once i j (omega arith) (omega arith) (sym (old i (omega arith)) ∙ q ∙ old j (omega arith))
      ]
    ];
    gone = below_more (λ (i : ℕ). nth left' (nth list' i) ≡ 0) t
        (λ i h. rw (old i h) (get_or-set_other left e (nth list i) (nth left e - 1) 0 (λ q. new i h (old i h ∙ q)) ∙ W.gone i h))
        (rw end zero_now);
    found = λ v h z. elim (ℕ_discrete v e) [
      | yes q ↦ (t, omega arith, end ∙ sym q)
      | no q ↦
          let f = W.found v (omega (arith, size)) (sym (get_or-set_other left e v (nth left e - 1) 0 q) ∙ z) in
          let k : f.0 < t = f.1 in
          (f.0, omega arith, old f.0 k ∙ f.2)
    ];
  }
    where
      left' : List ℕ
      left' = set left e (nth left e - 1)

      list' : List ℕ
      list' = set list t e

      size : length left' ≡ length left
      size = length-set left e (nth left e - 1)

      old : (i : ℕ) → i < t → nth list' i ≡ nth list i
      old i h = get_or-set_other list t i e 0 (λ q. omega arith)

      end : nth list' t ≡ e
      end = get_or-set_same list t e 0 (waiting_room e l some)

      zero_now : nth left' e ≡ 0
      zero_now = get_or-set_same left e (nth left e - 1) 0 l ∙ omega arith

      new : (i : ℕ) → i < t → nth list' i ≡ e → ⊥
      new i h q = omega (arith, W.gone i h, ap (nth left) (sym (old i h) ∙ q))

-- what stood on the list stays
pub freed_same : (g : Drawing) (c : ℕ) (left list : List ℕ) (t : ℕ) (left' list' : List ℕ) (t' : ℕ) → Freed g c left list t left' list' t'
    → (t ≤ t') × ((i : ℕ) → i < t → nth list' i ≡ nth list i)
freed_same g c left list t left' list' t' (entered q S) = (omega arith, S.1)
freed_same g c left list t left' list' t' (fewer q m S) = (omega arith, S.1)
freed_same g c left list t left' list' t' (last q m) = (omega arith, λ i l. get_or-set_other list t i (event g (c + 1)) 0 (λ z. omega arith))

-- only the first t entries of the list count
held_list : (g : Drawing) (left list : List ℕ) (h t : ℕ) (spent : ℕ → ℕ) → Held g left list h t spent → (list' : List ℕ) → Same list t list' → Held g left list' h t spent
held_list g left list h t spent H list' S = record {
  size = H.size;
  seen = H.seen;
  waiting = record {
    room = S.0 ∙ H.waiting.room;
    inside = λ i l. rw (S.1 i l) (H.waiting.inside i l);
    once = λ i j a b q. H.waiting.once i j a b (sym (S.1 i a) ∙ q ∙ S.1 j b);
    gone = λ i l. ap (nth left) (S.1 i l) ∙ H.waiting.gone i l;
    found = λ v l z. let f = H.waiting.found v l z in let k : f.0 < t = f.1 in (f.0, k, S.1 f.0 k ∙ f.2);
  };
  order = λ i a l al hd.
      let j = H.order i a l al (hd ∙ S.1 i l) in
      let less : j.0 < i = j.1 in
      (j.0, less, S.1 j.0 (omega arith) ∙ j.2);
  counts = H.counts;
}

-- ---- an arrow taken away

module _ (g : Drawing) (known : EventsKnown g) (left list : List ℕ) (h t : ℕ) (spent : ℕ → ℕ) (H : Held g left list h t spent) (more : h < t)
    (c : ℕ) (l : c < darts g) (even : darts g % 2 ≡ 0)
    (bound : (v : ℕ) → v < g.events → spent v + toward g v c ≤ sum (suc h) (λ i. between g (nth list i) v)) where
  into-events : Into (suc h) g.events (nth list)
  into-events i k = omega (arith, H.waiting.inside i (omega arith), H.size)

  once : Inj (suc h) (nth list)
  once i j a b = H.waiting.once i j (omega arith) (omega arith)

  gone_few : (v : ℕ) → sum (suc h) (λ i. between g (nth list i) v) ≤ comers g v
  gone_few v = omega (arith, along_le (suc h) g.events (nth list) (λ u. between g u v) into-events once, comers-between g known v)

  counted : enters c ≡ 0 → 0 < nth left (event g (c + 1))
  counted q =
      let e : ℕ = event g (c + 1) in
      let k : e < g.events = known (c + 1) (omega arith) in
      omega (arith, gone_few e, bound e k, H.counts e k, toward-leaves g e c q, δ-eq e e refl)

  pub free_ready : enters c ≡ 0 → darts g ≤ 6144 → Ready g c left list t
  free_ready q few =
      let e : ℕ = event g (c + 1) in
      let k : e < g.events = known (c + 1) (omega arith) in
      record {
        inside = omega (arith, H.size);
        counted = counted q;
        few = omega (arith, H.counts e k, comers_few g e);
        room = λ z. waiting_room left list t H.waiting e (omega (arith, H.size)) (counted q);
      }

  -- the counts after an arrow into e
  lowered : (e : ℕ) → e < length left → 0 < nth left e → enters c ≡ 0 → e ≡ event g (c + 1)
      → (v : ℕ) → v < g.events → nth (set left e (nth left e - 1)) v + (spent v + toward g v c) ≡ comers g v
  lowered e k some q z v b = elim (ℕ_discrete v e) [
    | yes s ↦
        let x : nth (set left e (nth left e - 1)) v ≡ nth left e - 1 = ap (nth (set left e (nth left e - 1))) s ∙ get_or-set_same left e (nth left e - 1) 0 k in
        omega (arith, H.counts v b, ap (nth left) s, toward-leaves g v c q, δ-eq (event g (c + 1)) v (sym z ∙ sym s))
    | no s ↦ omega (arith, H.counts v b, get_or-set_other left e v (nth left e - 1) 0 s, toward-leaves g v c q, δ_other (event g (c + 1)) v (λ r. s (sym r ∙ sym z)))
  ]

  -- where no arrow into e is left, the tails of all of them stand on the list
  tails_listed : enters c ≡ 0 → nth left (event g (c + 1)) ≤ 1 → (a : ℕ) → a < arrows g → head g a ≡ event g (c + 1) → (j : ℕ) × (j < suc h) × (nth list j ≡ tail g a)
  tails_listed q one a al hd =
      let e : ℕ = event g (c + 1) in
      let k : e < g.events = known (c + 1) (omega arith) in
      along_all (suc h) g.events (nth list) (λ u. between g u e) into-events once
      (omega (arith, gone_few e, bound e k, H.counts e k, toward-leaves g e c q, δ-eq e e refl, comers-between g known e))
      (tail g a) (known (2 * a) (omega arith)) (rw hd at (between_some g a al))

  pub free_held : (left' list' : List ℕ) (t' : ℕ) → Freed g c left list t left' list' t' → Held g left' list' h t' (λ v. spent v + toward g v c)
  free_held left' list' t' (entered q S) = held_list g left list h t _ (record {
    size = H.size;
    seen = H.seen;
    waiting = H.waiting;
    order = H.order;
    counts = λ v k. omega (arith, H.counts v k, toward-enters g v c q);
  }) list' S
  free_held left' list' t' (fewer q m S) =
      let e : ℕ = event g (c + 1) in
      let k : e < length left = omega (arith, known (c + 1) (omega arith), H.size) in
      held_list g left' list h t _ (record {
        size = length-set left e (nth left e - 1) ∙ H.size;
        seen = H.seen;
        waiting = waiting_fewer left list t H.waiting e k m;
        order = H.order;
        counts = lowered e k (counted q) q refl;
      }) list' S
  free_held left' list' t' (last q m) =
      let e : ℕ = event g (c + 1) in
      let k : e < length left = omega (arith, known (c + 1) (omega arith), H.size) in
      let same : (i : ℕ) → i < t → nth (set list t e) i ≡ nth list i = λ i b. get_or-set_other list t i e 0 (λ z. omega arith) in
      record {
        size = length-set left e (nth left e - 1) ∙ H.size;
        seen = omega (arith, H.seen);
        waiting = waiting_last left list t H.waiting e k (counted q) m;
        order = λ i a b al hd. elim (ℕ_discrete i t) [
          | yes s ↦
              let j = tails_listed q m a al (hd ∙ ap (nth (set list t e)) s ∙ get_or-set_same list t e 0 (waiting_room left list t H.waiting e k (counted q))) in
              let less : j.0 < suc h = j.1 in
              (j.0, omega arith, same j.0 (omega arith) ∙ j.2)
          | no s ↦
              let j = H.order i a (omega arith) al (hd ∙ same i (omega arith)) in
              let less : j.0 < i = j.1 in
              (j.0, less, same j.0 (omega arith) ∙ j.2)
        ];
        counts = lowered e k (counted q) q refl;
      }

-- ---- round the event at place h

abbrev spent : Drawing → List ℕ → ℕ → ℕ → ℕ → ℕ → ℕ
spent g list h f k v = sum h (λ i. between g (nth list i) v) + sum k (λ j. toward g v (iter (after g) j f))

pub record Around (g : Drawing) (left list : List ℕ) (h t f c : ℕ) : Type 0 where
  pub steps : ℕ
  pub walk : Walk (after g) f steps c
  pub more : h < t
  pub start : f < darts g
  pub place : event g f ≡ nth list h
  pub held : Held g left list h t (spent g list h f steps)

held_as : (g : Drawing) (left list : List ℕ) (h t : ℕ) (s s' : ℕ → ℕ) → ((v : ℕ) → v < g.events → s v ≡ s' v) → Held g left list h t s → Held g left list h t s'
held_as g left list h t s s' e H = record {
  size = H.size;
  seen = H.seen;
  waiting = H.waiting;
  order = H.order;
  counts = λ v l. ap (λ (x : ℕ). nth left v + x) (sym (e v l)) ∙ H.counts v l;
}

pub around_start : (g : Drawing) (left list : List ℕ) (h t f : ℕ) → Peeled g left list h t → h < t → f < darts g → event g f ≡ nth list h → Around g left list h t f f
unfolding sum
around_start g left list h t f P more l q = record {
  steps = 0;
  walk = walk_start (after g) f;
  more = more;
  start = l;
  place = q;
  held = held_as g left list h t _ (spent g list h f 0) (λ v k. omega arith) P;
}

module _ (g : Drawing) (known : EventsKnown g) (R : Rings g) (even : darts g % 2 ≡ 0) (left list : List ℕ) (h t f c : ℕ) (A : Around g left list h t f c) where
  pub around_here : c < darts g
  around_here = walk_into (darts g) (after g) f A.steps c (after_inj g R) R.inside A.start A.walk

  bound : (v : ℕ) → v < g.events → spent g list h f A.steps v + toward g v c ≤ sum (suc h) (λ i. between g (nth list i) v)
  unfolding sum
  bound v l = omega (arith, ring_part g R f A.start (toward g v) A.steps c A.walk, ap (λ (u : ℕ). between g u v) A.place)

  pub around_ready : enters c ≡ 0 → darts g ≤ 6144 → Ready g c left list t
  around_ready = free_ready g known left list h t (spent g list h f A.steps) A.held A.more c around_here even bound

  module _ (left' list' : List ℕ) (t' : ℕ) (F : Freed g c left list t left' list' t') where
    same : (i : ℕ) → i < t → nth list' i ≡ nth list i
    same = (freed_same g c left list t left' list' t' F).1

    earlier : (v : ℕ) → sum h (λ i. between g (nth list i) v) ≡ sum h (λ i. between g (nth list' i) v)
    earlier v =
        sum_cong h (λ i. between g (nth list i) v) (λ i. between g (nth list' i) v)
        (λ i l. ap (λ (u : ℕ). between g u v) (sym (same i (omega (arith, A.more)))))

    next_held : Held g left' list' h t' (spent g list' h f (suc A.steps))
    unfolding sum
    next_held =
        held_as g left' list' h t' _ (spent g list' h f (suc A.steps))
        (λ v l. omega (arith, earlier v, ap (toward g v) A.walk.here))
        (free_held g known left list h t (spent g list h f A.steps) A.held A.more c around_here even bound left' list' t' F)

    module _ (e : ℕ) (q : e ≡ after g c) where
      pub around_step : e ≢ f → Around g left' list' h t' f e
      around_step z = rw q (record {
        steps = A.steps + 1;
        walk = walk_step (after g) f A.steps c A.walk (λ r. z (q ∙ r));
        more = omega (arith, A.more, (freed_same g c left list t left' list' t' F).0);
        start = A.start;
        place = A.place ∙ sym (same h A.more);
        held = rw add-one next_held;
      })

      pub around_nearer : e ≢ f → ahead (darts g) (after g) f (after g e) < ahead (darts g) (after g) f (after g c)
      around_nearer z = rw q (ring_nearer g R f A.start A.steps c A.walk (λ r. z (q ∙ r)))

      pub around_done : e ≡ f → Peeled g left' list' (h + 1) t'
      unfolding sum
      around_done z =
          let H = next_held in
          let more : h < t' = omega (arith, A.more, (freed_same g c left list t left' list' t' F).0) in
          rw add-one (record {
            size = H.size;
            seen = more;
            waiting = H.waiting;
            order = H.order;
            counts = λ v l.
                omega (
                  arith,
                  H.counts v l,
                  ring_sum g R f A.start (toward g v) A.steps c A.walk (sym q ∙ z),
                  ap (λ (u : ℕ). between g u v) (A.place ∙ sym (same h A.more)),
                );
          })

-- ---- what the code reads

module _ (g : Drawing) (left list : List ℕ) (h t : ℕ) (P : Peeled g left list h t) (more : h < t) (v : ℕ) (q : v ≡ nth list h) where
  pub place_inside : v < g.events
  place_inside = omega (arith, P.waiting.inside h more, P.size)

  pub place_start : (first : List ℕ) (f : ℕ) → Firsts g first → f ≡ nth first v → Around g left list h t f f
  place_start first f F z =
      around_start g left list h t f P more (omega (arith, F.inside v place_inside)) (ap (event g) z ∙ F.each v place_inside ∙ q)

pub around_few : (g : Drawing) (left list : List ℕ) (h t f c : ℕ) → Around g left list h t f c → t ≤ g.events
around_few g left list h t f c A = omega (arith, waiting_few left list t A.held.waiting, A.held.size)

pub peeled_few : (g : Drawing) (left list : List ℕ) (h t : ℕ) → Peeled g left list h t → t ≤ g.events
peeled_few g left list h t P = omega (arith, waiting_few left list t P.waiting, P.size)
