-- The laws of the marks and the queue. Assumes nothing.
use mathlib.Core.Path.{◌≡◌, refl, sym, ap, ◌∙◌, subst}
use mathlib.Core.Logic.{◌≢◌}
use mathlib.Core.List.{List}
use Prim.Native.Nat.{ℕ, ◌+◌, ◌<◌, ◌≤◌}
use native.Mathlib.Decide.{ℕ_discrete, dec_le}
use native.Mathlib.Omega.{arith}
use borrow.Author.Count.{below_more}
use lib.ListN.{length, set, replicate, length-set, length-replicate, get_or-replicate}
use lib.Seq.{get_or-set_same, get_or-set_other}
use Rattle.finite.specs.Sums.{δ}
use Rattle.finite.proofs.Sum.{δ-eq, δ_other, sum_change, sum_cong, sum_const, sum_term, sum-zero}
use Rattle.drawing.specs.Drawing.{Drawing, darts, event}
use Rattle.rules.specs.Chart.{drawing}
use Rattle.words.specs.Tables.{nth}
use Rattle.chart.specs.Shape.{Shape}
use Rattle.rings.specs.Joining.{From, Marked, bare, Queued, Readied, Grown, Push}

-- ---- growing

pub grown_none : (m q : List ℕ) (t : ℕ) → Grown m q t m q t
grown_none m q t = record { longer = omega arith; kept = λ v w. w; same = λ i l. refl }

pub grown_more : {m q : List ℕ} {t : ℕ} {m₁ q₁ : List ℕ} {t₁ : ℕ} {m₂ q₂ : List ℕ} {t₂ : ℕ}
    → Grown m q t m₁ q₁ t₁ → Grown m₁ q₁ t₁ m₂ q₂ t₂ → Grown m q t m₂ q₂ t₂
grown_more a b = record {
  longer = omega (arith, a.longer, b.longer);
  kept = λ v w. b.kept v (a.kept v w);
  same = λ i l. b.same i (omega (arith, a.longer)) ∙ a.same i l;
}

-- ---- the events without a mark

module _ (g : Drawing) (m : List ℕ) (size : length m ≡ g.events) where
  bare_less : (v x : ℕ) → v < g.events → x ≢ 65535 → nth m v ≡ 65535 → bare g m ≡ bare g (set m v x) + 1
  unfolding bare
  bare_less v x l o h =
      let same : nth (set m v x) v ≡ x = get_or-set_same m v x 0 (omega arith) in
      omega (
        arith,
        sum_change g.events (λ u. δ (nth m u) 65535) (λ u. δ (nth (set m v x) u) 65535) v l
            (λ u k d. ap (λ (y : ℕ). δ y 65535) (sym (get_or-set_other m v u x 0 d))),
        δ-eq (nth m v) 65535 h,
        δ_other (nth (set m v x) v) 65535 (λ q. o (sym same ∙ q)),
      )

  -- another mark in the place of one
  bare_same : (v x : ℕ) → v < g.events → x ≢ 65535 → Marked m v → bare g (set m v x) ≡ bare g m
  unfolding bare
  bare_same v x l o h =
      let same : nth (set m v x) v ≡ x = get_or-set_same m v x 0 (omega arith) in
      omega (
        arith,
        sum_change g.events (λ u. δ (nth m u) 65535) (λ u. δ (nth (set m v x) u) 65535) v l
            (λ u k d. ap (λ (y : ℕ). δ y 65535) (sym (get_or-set_other m v u x 0 d))),
        δ_other (nth m v) 65535 h,
        δ_other (nth (set m v x) v) 65535 (λ q. o (sym same ∙ q)),
      )

  pub bare-none : bare g m ≡ 0 → (v : ℕ) → v < g.events → Marked m v
  unfolding bare
  bare-none z v l e = omega (arith, sum_term g.events (λ x. δ (nth m x) 65535) v l, δ-eq (nth m v) 65535 e)

  pub bare-all : ((v : ℕ) → v < g.events → Marked m v) → bare g m ≡ 0
  unfolding bare
  bare-all h = sum-zero g.events (λ x. δ (nth m x) 65535) (λ x l. δ_other (nth m x) 65535 (h x l))

pub empty : (g : Drawing) (m q : List ℕ) (k : ℕ) → m ≡ replicate k 65535 → k ≡ g.events → length q ≡ g.events → Queued g m q 0
unfolding bare
empty g m q k e p r = record {
  marks = ap length e ∙ length-replicate k 65535 ∙ p;
  room = r;
  count = omega (arith, sum_cong g.events (λ v. δ (nth m v) 65535) (λ v. 1) (λ v l. δ-eq (nth m v) 65535 (none_at v l)), sum_const g.events 1);
  entry = λ i l. absurd (omega arith);
  once = λ i j h l. absurd (omega arith);
  found = λ v l w. absurd (w (none_at v l));
  own = λ v l w. absurd (w (none_at v l));
  real = λ v l w. absurd (w (none_at v l));
}
  where
    none_at : (v : ℕ) → v < g.events → nth m v ≡ 65535
    none_at v l = ap (λ (z : List ℕ). nth z v) e ∙ get_or-replicate {A = ℕ} k v 65535 0 (omega arith)

-- ---- a push. The code has the event of x as v, and its mark as y

module _ {s : List ℕ} {n : ℕ} (S : Shape s n) {x : ℕ} {m q : List ℕ} {t : ℕ} (A : Readied (drawing s) x m q t)
    (v y : ℕ) (at : v ≡ event (drawing s) x) where
  abbrev g : Drawing
  g = drawing s

  known : v < g.events
  known = omega (arith, at, A.ground.known x A.dart)

  pub marked_in : v < length m
  marked_in = omega (arith, known, A.queued.marks)

  -- the queue is full: every event has its mark
  pub full : length q ≤ t → Push g x m q t m q t
  full l = record {
    queued = A.queued;
    grown = grown_none m q t;
    here = bare-none g m A.queued.marks (omega (arith, A.queued.count, A.queued.room)) (event g x) (A.ground.known x A.dart);
  }

  -- the mark that is stored, a dart of the event
  a_mark : x ≢ 65535
  a_mark e = omega (arith, A.dart, S.darts, S.few)

  mark : nth (set m v x) v ≡ x
  mark = get_or-set_same m v x 0 marked_in

  earlier : (i : ℕ) → i < t → nth (set q t x) i ≡ nth q i
  earlier i p = get_or-set_other q t i x 0 (λ e. omega arith)

  keep : (w : ℕ) → Marked m w → Marked (set m v x) w
  keep w k = elim (ℕ_discrete w v) [
    | yes e ↦ λ r. a_mark (sym mark ∙ ap (nth (set m v x)) (sym e) ∙ r)
    | no e ↦ λ r. k (sym (get_or-set_other m v w x 0 e) ∙ r)
  ]

  here : Marked (set m v x) (event g x)
  here r = a_mark (sym mark ∙ ap (nth (set m v x)) at ∙ r)

  -- what was marked before, unless it is v
  before : (w : ℕ) → w ≢ v → Marked (set m v x) w → Marked m w
  before w e k r = k (get_or-set_other m v w x 0 e ∙ r)

  own : (w : ℕ) → w < g.events → Marked (set m v x) w → (nth (set m v x) w < darts g) × (event g (nth (set m v x) w) ≡ w)
  own w l k = elim (ℕ_discrete w v) [
    | yes e ↦ rw (e, mark) (A.dart, sym at)
    | no e ↦ rw (get_or-set_other m v w x 0 e) (A.queued.own w l (before w e k))
  ]

  real : (w : ℕ) → w < g.events → Marked (set m v x) w → From g (event g 0) w
  real w l k = elim (ℕ_discrete w v) [
    | yes e ↦ subst (From g (event g 0)) (sym (e ∙ at)) A.joined
    | no e ↦ A.queued.real w l (before w e k)
  ]

  module _ (read : y ≡ nth m v) where
    -- the event has its mark: it gets another
    stay : y ≢ 65535 → Push g x m q t (set m v x) (set q t x) t
    stay w =
        let h : Marked m v = λ r. w (read ∙ r) in
        record {
          queued = record {
            marks = length-set m v x ∙ A.queued.marks;
            room = length-set q t x ∙ A.queued.room;
            count = omega (arith, bare_same g m A.queued.marks v x known a_mark h, A.queued.count);
            entry = λ i p. rw (earlier i p) ((A.queued.entry i p).0, keep (event g (nth q i)) (A.queued.entry i p).1);
            once = λ i j l p. rw (earlier i (omega arith), earlier j p) (A.queued.once i j l p);
            found = λ u l k.
                let r = A.queued.found u l (elim (ℕ_discrete u v) [ yes e ↦ rw e h | no e ↦ before u e k ]) in
                (r.0, r.1, ap (event g) (earlier r.0 r.1) ∙ r.2);
            own = own;
            real = real;
          };
          grown = record { longer = omega arith; kept = keep; same = earlier };
          here = here;
        }

    module _ (h : y ≡ 65535) where
      less : bare g m ≡ bare g (set m v x) + 1
      less = bare_less g m A.queued.marks v x known a_mark (sym read ∙ h)

      room : t < length q
      room = omega (arith, less, A.queued.count, A.queued.room)

      last : nth (set q t x) t ≡ x
      last = get_or-set_same q t x 0 room

      -- no earlier dart of the queue is of this event
      apart : (i : ℕ) → i < t → event g (nth q i) ≢ event g x
      apart i p e = (A.queued.entry i p).1 (ap (nth m) (e ∙ sym at) ∙ sym read ∙ h)

      add : Push g x m q t (set m v x) (set q t x) (t + 1)
      add = record {
        queued = record {
          marks = length-set m v x ∙ A.queued.marks;
          room = length-set q t x ∙ A.queued.room;
          count = omega (arith, less, A.queued.count);
          entry =
              below_more (λ (i : ℕ). (nth (set q t x) i < darts g) × Marked (set m v x) (event g (nth (set q t x) i))) t
              (λ i p. rw (earlier i p) ((A.queued.entry i p).0, keep (event g (nth q i)) (A.queued.entry i p).1))
              (rw last (A.dart, here));
          once = λ i j l p. elim (ℕ_discrete j t) [
            | yes e ↦ rw (earlier i (omega arith), e, last) (apart i (omega arith))
            | no e ↦ rw (earlier i (omega arith), earlier j (omega arith)) (A.queued.once i j l (omega arith))
          ];
          found = λ w l k. elim (ℕ_discrete w v) [
            | yes c ↦ (t, omega arith, ap (event g) last ∙ sym at ∙ sym c)
            | no c ↦
                let r = A.queued.found w l (before w c k) in
                (r.0, omega (arith, r.1), ap (event g) (earlier r.0 r.1) ∙ r.2)
          ];
          own = own;
          real = real;
        };
        grown = record { longer = omega arith; kept = keep; same = earlier };
        here = here;
      }

    -- what is stored, with r for an event that had no mark
    pub store : y < 65536 → (r : ℕ) → (65534 < y → r ≡ 1) → (y ≤ 65534 → r ≡ 0)
        → (m' q' : List ℕ) → m' ≡ set m v x → q' ≡ set q t x → Push g x m q t m' q' (t + r)
    store few r one none m' q' e f = elim (dec_le y 65534) [
      | yes w ↦ let end : t + r ≡ t = omega (arith, none w) in rw (e, f, end) (stay (λ o. omega arith))
      | no w ↦ let end : t + r ≡ t + 1 = omega (arith, one (omega arith)) in rw (e, f, end) (add (omega arith))
    ]
