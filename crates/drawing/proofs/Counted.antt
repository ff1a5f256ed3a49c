-- The ring of each event followed from one of its darts, and the darts on it counted: they are all darts exactly if `Rings`. Assumes nothing.
--   around g v          how many darts the event v has
--   Level g             the successors add up to what the darts add up to
--   Circled g d k       going on from d, d comes again after k steps, and not before
--   OneRing g v         each dart of the event v leads to each
--   Tally g x k met     what met darts, on one ring at each of the k events x 0, x 1 .., tell: they are no more than these events have, as many
--                       only if each of these is one ring, and as many if every event is
--   Turns g x k         the k events x 0, x 1 .. are events of g, each once
use mathlib.Core.Path.{◌≡◌, refl, sym, ap, ◌∙◌}
use mathlib.Core.Logic.{◌≢◌}
use Prim.Native.Nat.{ℕ, suc, ◌+◌, ◌-◌, ◌*◌, ◌<◌, ◌≤◌}
use native.Mathlib.Decide.{ℕ_discrete, dec_le}
use native.Mathlib.Numerals.{add-one}
use native.Mathlib.Omega.{arith}
use Rattle.finite.specs.Sums.{sum, δ, class}
use Rattle.finite.specs.Steps.{iter, Inj, Into}
use Rattle.finite.proofs.Sum.{sum_cong, sum_mono, sum_const, sum_tight, δ-eq}
use Rattle.finite.proofs.Class.{class_total, class-zero, class_term}
use Rattle.finite.proofs.Perm.{fibre, fibre_le, fibre_total, inj_le, reindex}
use Rattle.finite.proofs.Along.{fibre_none, fibre_met, along_le, along_all, along_class}
use Rattle.finite.proofs.Orbit.{cycle, fresh_inj, iter-add, open_inj}
use Rattle.drawing.specs.Drawing.{Drawing, darts, event, after}
use Rattle.drawing.specs.Conditions.{EventsKnown, Rings}
use Rattle.drawing.proofs.Rounds.{Kept, goes_inside, goes_there, after_inj}

unfoldable pub around : Drawing → ℕ → ℕ
around g v = class (darts g) (event g) (λ d. 1) v

abbrev pub Level : Drawing → Type 0
Level g = sum (darts g) (after g) ≡ sum (darts g) (λ d. d)

pub record Circled (g : Drawing) (d k : ℕ) : Type 0 where
  pub some : 0 < k
  pub back : iter (after g) k d ≡ d
  pub fresh : (j : ℕ) → 0 < j → j < k → iter (after g) j d ≢ d

abbrev pub OneRing : Drawing → ℕ → Type 0
OneRing g v = (d e : ℕ) → d < darts g → e < darts g → event g d ≡ v → event g e ≡ v → (k : ℕ) × (k < darts g) × (iter (after g) k d ≡ e)

pub record Tally (g : Drawing) (x : ℕ → ℕ) (k met : ℕ) : Type 0 where
  pub most : met ≤ sum k (λ i. around g (x i))
  pub whole : met ≡ sum k (λ i. around g (x i)) → (i : ℕ) → i < k → OneRing g (x i)
  pub exact : Rings g → met ≡ sum k (λ i. around g (x i))

abbrev pub Turns : Drawing → (ℕ → ℕ) → ℕ → Type 0
Turns g x k = Into k g.events x × Inj k x

-- the successors in rings are the darts in another order
pub rings_level : (g : Drawing) → Rings g → Level g
rings_level g R = reindex (darts g) (after g) (after_inj g R) R.inside (λ d. d)

-- every dart is of one event
pub around_total : (g : Drawing) → EventsKnown g → sum g.events (around g) ≡ darts g
unfolding around
around_total g E = omega (arith, class_total (darts g) g.events (event g) (λ d. 1) E, sum_const (darts g) 1)

module _ (g : Drawing) (K : Kept g) (d : ℕ) (l : d < darts g) where
  -- ---- a walk of m steps from d that meets no dart twice

  module _ (m : ℕ) (once : Inj m (λ j. iter (after g) j d)) where
    into : (j : ℕ) → j < m → iter (after g) j d < darts g
    into j h = goes_inside g K j d l

    -- it meets a dart of its event at most once, and no other dart
    held : (e : ℕ) → e < darts g → fibre m (λ j. iter (after g) j d) e ≤ δ (event g e) (event g d) * 1
    held e h = elim (ℕ_discrete (event g e) (event g d)) [
      | yes q ↦ omega (arith, fibre_le m (λ j. iter (after g) j d) once e, δ-eq (event g e) (event g d) q)
      | no q ↦ omega (arith, fibre_none m (λ j. iter (after g) j d) e (λ j i r. q (ap (event g) (sym r) ∙ goes_there g K j d l)))
    ]

    pub walk_most : m ≤ around g (event g d)
    unfolding around class
    walk_most = omega (
      arith,
      fibre_total m (darts g) (λ j. iter (after g) j d) into,
      sum_mono (darts g) (fibre m (λ j. iter (after g) j d)) (λ e. δ (event g e) (event g d) * 1) held,
    )

    -- as many steps as the event has darts meet each of them
    pub walk_whole : m ≡ around g (event g d) → (e : ℕ) → e < darts g → event g e ≡ event g d → (j : ℕ) × (j < m) × (iter (after g) j d ≡ e)
    unfolding around class
    walk_whole q e h r =
        let tight =
        sum_tight (darts g) (fibre m (λ j. iter (after g) j d)) (λ x. δ (event g x) (event g d) * 1) held
        (fibre_total m (darts g) (λ j. iter (after g) j d) into ∙ q) e h in
        fibre_met m (λ j. iter (after g) j d) e (omega (arith, tight, δ-eq (event g e) (event g d) r))

  -- ---- a walk that comes back to d

  module _ (k : ℕ) (C : Circled g d k) where
    once : Inj k (λ j. iter (after g) j d)
    once = fresh_inj (after g) d k C.back C.fresh

    pub ring_most : k ≤ around g (event g d)
    ring_most = walk_most k once

    -- one ring of all darts of the event
    pub ring_whole : k ≡ around g (event g d) → OneRing g (event g d)
    ring_whole q x y h i r s =
        let a = walk_whole k once q x h r in
        let b = walk_whole k once q y i s in
        let few : k ≤ darts g = inj_le k (darts g) (λ j. iter (after g) j d) once (into k once) in
        on few a.0 b.0 a.1 b.1 a.2 b.2
      where
        on : k ≤ darts g → (i j : ℕ) → i < k → j < k → iter (after g) i d ≡ x → iter (after g) j d ≡ y
            → (t : ℕ) × (t < darts g) × (iter (after g) t x ≡ y)
        on few i j im jm s t =
            let p = after g in
            elim (dec_le i j) [
              | yes h ↦
                  let split : j - i + i ≡ j = omega arith in
                  (j - i, omega arith, ap (iter p (j - i)) (sym s) ∙ sym (iter-add p (j - i) i d) ∙ ap (λ (n : ℕ). iter p n d) split ∙ t)
              | no h ↦
                  let split : k - i + i ≡ k = omega arith in (
                    j + (k - i),
                    omega arith,
                    ap (iter p (j + (k - i))) (sym s) ∙ iter-add p j (k - i) (iter p i d)
                        ∙ ap (iter p j) (sym (iter-add p (k - i) i d) ∙ ap (λ (n : ℕ). iter p n d) split ∙ C.back) ∙ t,
                  )
            ]

    -- where each event's darts are one ring, this is all of it
    pub ring_exact : Rings g → k ≡ around g (event g d)
    unfolding around
    ring_exact R =
        omega (
          arith,
          sum_const k 1,
          along_class k (darts g) (λ j. iter (after g) j d) (event g) (λ c. 1) (event g d) (into k once) once (λ j i. goes_there g K j d l) (λ e h q.
              let t = R.meets d e l h (sym q) in
              let c = cycle (after g) d k C.some C.back t.0 in
              (c.0, c.1, sym c.2 ∙ t.2)),
        )

-- ---- events in turn

-- no event yet
pub tally_none : (g : Drawing) (x : ℕ → ℕ) → Tally g x 0 0
unfolding sum
tally_none g x = record { most = omega arith; whole = λ q i l. absurd (omega arith); exact = λ R. refl }

-- the same events, told in another way
pub tally_same : (g : Drawing) (x y : ℕ → ℕ) (k met : ℕ) → ((i : ℕ) → i < k → y i ≡ x i) → Tally g x k met → Tally g y k met
tally_same g x y k met same I = record {
  most = omega (arith, I.most, alike);
  whole = λ q i l. rw (same i l) (I.whole (omega (arith, alike)) i l);
  exact = λ R. omega (arith, I.exact R, alike);
}
  where
    alike : sum k (λ i. around g (y i)) ≡ sum k (λ i. around g (x i))
    alike = sum_cong k (λ i. around g (y i)) (λ i. around g (x i)) (λ i l. ap (around g) (same i l))

-- all events have no more than all darts
pub turns_few : (g : Drawing) → EventsKnown g → (x : ℕ → ℕ) (k : ℕ) → Turns g x k → sum k (λ i. around g (x i)) ≤ darts g
turns_few g E x k T = omega (arith, along_le k g.events x (around g) T.0 T.1, around_total g E)

-- and as many, where each event has its turn
pub turns_all : (g : Drawing) → EventsKnown g → (x : ℕ → ℕ) (k : ℕ) → k ≡ g.events → Turns g x k → sum k (λ i. around g (x i)) ≡ darts g
turns_all g E x k q T = rw q (reindex g.events x (rw q at T.1) (rw q at T.0) (around g) ∙ around_total g E)

module _ (g : Drawing) (x : ℕ → ℕ) (k met : ℕ) (I : Tally g x k met) where
  one_more : sum (k + 1) (λ i. around g (x i)) ≡ sum k (λ i. around g (x i)) + around g (x k)
  unfolding sum
  one_more = rw add-one refl

  -- an event without darts has nothing to follow
  pub tally_skip : ((d : ℕ) → d < darts g → event g d ≢ x k) → Tally g x (k + 1) met
  unfolding around
  tally_skip none = record {
    most = omega (arith, one_more, I.most);
    whole = λ q i l. elim (ℕ_discrete i k) [
      | yes e ↦ λ d c h j r s. absurd (none d h (r ∙ ap x e))
      | no e ↦ I.whole (omega (arith, one_more, empty)) i (omega arith)
    ];
    exact = λ R. omega (arith, one_more, empty, I.exact R);
  }
    where
      empty : around g (x k) ≡ 0
      empty = class-zero (darts g) (event g) (λ d. 1) (x k) (λ d l q. absurd (none d l q))

  module _ (K : Kept g) (d : ℕ) (l : d < darts g) (there : event g d ≡ x k) where
    -- the ring of so many steps is followed
    pub tally_ring : (steps : ℕ) → Circled g d steps → Tally g x (k + 1) (met + steps)
    tally_ring steps C = record {
      most = omega (arith, one_more, I.most, most);
      whole = λ q i h. elim (ℕ_discrete i k) [
        | yes e ↦ rw (e, ← there) (ring_whole g K d l steps C (omega (arith, one_more, I.most, most, ap (around g) there)))
        | no e ↦ I.whole (omega (arith, one_more, I.most, most)) i (omega arith)
      ];
      exact = λ R. omega (arith, one_more, I.exact R, ring_exact g K d l steps C R, ap (around g) there);
    }
      where
        most : steps ≤ around g (x k)
        most = rw (← there) (ring_most g K d l steps C)

    -- a walk that does not come back within as many steps as there are darts left
    pub refuse_open : EventsKnown g → Turns g x (k + 1) → (left : ℕ) → darts g ≤ met + left
        → ((j : ℕ) → 0 < j → j ≤ left → iter (after g) j d ≢ d) → Rings g → ⊥
    refuse_open E T left enough none R =
        omega (
          arith,
          I.exact R,
          walk_most g K d l (suc left) (open_inj (darts g) (after g) (after_inj g R) R.inside d (suc left) l (λ j a b. none j a (omega arith))),
          ap (around g) there,
          one_more,
          turns_few g E x (k + 1) T,
        )

  -- all darts are met: the other events have none, and each event's darts are one ring
  pub rings_whole : Kept g → EventsKnown g → Turns g x k → met ≡ darts g → Rings g
  unfolding around
  rings_whole K E T q = record {
    inside = λ d l. (K d l).0;
    stays = λ d l. (K d l).1;
    meets = λ d e h i r.
        let all : sum k (λ i. around g (x i)) ≡ sum g.events (around g) = omega (arith, I.most, turns_few g E x k T, around_total g E) in
        let t = along_all k g.events x (around g) T.0 T.1 all (event g d) (E d h) (class_term (darts g) (event g) (λ c. 1) d h) in
        I.whole (omega (arith, all, around_total g E)) t.0 t.1 d e h i (sym t.2) (sym (t.2 ∙ r));
  }
