-- The laws of the events that the arrows do not join with dart 0's: their rings are followed too, one after the other. Assumes nothing.
--   onto x k v      the sequence x with v in its k-th place
use mathlib.Core.Path.{◌≡◌, refl, sym, ap, ◌∙◌}
use mathlib.Core.Logic.{◌≢◌}
use mathlib.Core.Bool.{cond}
use mathlib.Core.List.{List}
use Rattle.std.specs.Prelude.{Some, None}
use Prim.Native.Nat.{ℕ, ◌+◌, ◌-◌, ◌<◌, ◌≤◌}
use native.Mathlib.Decide.{ℕ_discrete, dec_lt}
use native.Mathlib.Omega.{arith}
use borrow.Author.Tests.{eq-eqb, ne_eqb}
use lib.ListN.{length}
use lib.Dec.{eqb}
use Rattle.finite.specs.Says.{Says}
use Rattle.finite.specs.Sums.{sum}
use Rattle.finite.proofs.Along.{along_missed}
use Rattle.finite.proofs.Orbit.{apart_inj}
use Rattle.finite.proofs.Yes.{says_as, says_equal}
use Rattle.drawing.specs.Drawing.{Drawing, darts, event}
use Rattle.drawing.specs.Conditions.{EventsKnown, Rings}
use Rattle.drawing.proofs.Rounds.{Kept}
use Rattle.drawing.proofs.Counted.{around, Tally, Turns, Circled, around_total, tally_same, tally_skip, tally_ring, turns_few, refuse_open, rings_whole}
use Rattle.rules.specs.Chart.{drawing}
use Rattle.words.specs.Tables.{nth}
use Rattle.chart.specs.Shape.{Shape}
use Rattle.chart.specs.Held.{Picked}
use Rattle.rings.specs.Rounds.{Open, Returned}
use Rattle.rings.specs.Joining.{Ground, Marked, Gone, Passed}

unfoldable pub onto : (ℕ → ℕ) → ℕ → ℕ → ℕ → ℕ
onto x k v i = cond (eqb i k) v (x i)

onto_there : (x : ℕ → ℕ) (k v : ℕ) → onto x k v k ≡ v
unfolding onto
onto_there x k v = simp (eq-eqb k k refl) refl

onto_other : (x : ℕ → ℕ) (k v i : ℕ) → i ≢ k → onto x k v i ≡ x i
unfolding onto
onto_other x k v i o = simp (ne_eqb i k o) refl

module _ (g : Drawing) (first : List ℕ) (v met : ℕ) (G : Gone g first v met) where
  -- an event that is marked has had its turn
  pub gone_marked : Marked first v → Gone g first (v + 1) met
  gone_marked m = record {
    turn = G.turn;
    many = G.many;
    told = G.told;
    turns = G.turns;
    each = λ u l h. G.each u l (λ k. elim (ℕ_discrete u v) [ yes e ↦ rw e m | no e ↦ h (omega arith) ]);
    only = λ i l k. G.only i l (omega arith);
  }

  -- one that is not comes next
  module _ (l : v < g.events) (new : nth first v ≡ 65535) where
    abbrev next : ℕ → ℕ
    next = onto G.turn G.many v

    there : next G.many ≡ v
    there = onto_there G.turn G.many v

    same : (i : ℕ) → i < G.many → next i ≡ G.turn i
    same i h = onto_other G.turn G.many v i (λ e. omega arith)

    told : Tally g next G.many met
    told = tally_same g G.turn next G.many met same G.told

    turns : Turns g next (G.many + 1)
    turns = (
      λ i h. elim (ℕ_discrete i G.many) [
        | yes e ↦ rw (e, there) l
        | no e ↦ rw (same i (omega arith)) (G.turns.0 i (omega arith))
      ],
      apart_inj (G.many + 1) next (λ i j a b q. elim (ℕ_discrete j G.many) [
        | yes e ↦
            let old : G.turn i ≡ v = sym (same i (omega arith)) ∙ q ∙ ap next e ∙ there in
            G.only i (omega arith) (omega (arith, old)) (ap (nth first) old ∙ new)
        | no e ↦
            let f : i ≡ j = G.turns.1 i j (omega arith) (omega arith) (sym (same i (omega arith)) ∙ q ∙ same j (omega arith)) in omega arith
      ]),
    )

    gone_next : (met' : ℕ) → Tally g next (G.many + 1) met' → Gone g first (v + 1) met'
    gone_next met' T = record {
      turn = next;
      many = G.many + 1;
      told = T;
      turns = turns;
      each = λ u k h. elim (ℕ_discrete u v) [
        | yes e ↦ (G.many, omega arith, there ∙ sym e)
        | no e ↦
            let t = G.each u k (λ o. h (omega arith)) in
            (t.0, omega (arith, t.1), same t.0 t.1 ∙ t.2)
      ];
      only = λ i k h. elim (ℕ_discrete i G.many) [
        | yes e ↦ absurd (omega (arith, ap next e, there))
        | no e ↦
            let o = same i (omega arith) in
            rw o (G.only i (omega arith) (omega (arith, o)))
      ];
    }

    -- no dart: nothing to follow
    pub gone_bare : ((d : ℕ) → d < darts g → event g d ≢ v) → Gone g first (v + 1) met
    gone_bare none = gone_next met (tally_skip g next G.many met told (λ d h q. none d h (q ∙ there)))

    module _ (K : Kept g) (d : ℕ) (h : d < darts g) (own : event g d ≡ v) where
      here : event g d ≡ next G.many
      here = own ∙ sym there

      pub gone_ring : (r : ℕ) → Circled g d r → Gone g first (v + 1) (met + r)
      gone_ring r C = gone_next (met + r) (tally_ring g next G.many met told K d h here r C)

      -- no return within the darts that are left
      pub gone_open : EventsKnown g → (left : ℕ) → darts g ≤ met + left → Open g d left → Rings g → ⊥
      gone_open E left enough O = refuse_open g next G.many met told K d h here E turns left enough O

  -- every event has had its turn: all darts are met exactly if each event's darts are one ring
  module _ (K : Kept g) (E : EventsKnown g) (end : g.events ≤ v) where
    all : sum G.many (λ i. around g (G.turn i)) ≡ darts g
    all = elim (dec_lt (sum G.many (λ i. around g (G.turn i))) (sum g.events (around g))) [
      | yes less ↦
          let t = along_missed G.many g.events G.turn (around g) G.turns.0 G.turns.1 less in
          let m = G.each t.0 t.1 (λ k. absurd (omega (arith, t.1))) in
          absurd (t.3 m.0 m.1 m.2)
      | no most ↦ omega (arith, around_total g E, turns_few g E G.turn G.many G.turns)
    ]

    pub all_gone : (n : ℕ) → n ≡ darts g → Says (eqb met n) (Rings g)
    all_gone n q =
        says_as (eqb met n) (λ e. rings_whole g G.turn G.many met G.told K E G.turns (e ∙ q))
        (λ R. G.told.exact R ∙ all ∙ sym q) (says_equal met n)

-- ---- one event: the code has its mark as m, and the dart that stands at it as d

module _ {s : List ℕ} {n : ℕ} (S : Shape s n) (D : Ground (drawing s))
    (first some : List ℕ) (size : length first ≡ (drawing s).events) (P : Picked (drawing s) some)
    (v met : ℕ) (l : v < length first) (few : met ≤ n) (G : Gone (drawing s) first v met) where
  abbrev g : Drawing
  g = drawing s

  module _ (m : ℕ) (got : m ≡ nth first v) where
    pub pass_marked : m ≢ 65535 → Passed g first (v + 1) (Some met)
    pass_marked h = (omega (arith, S.darts), gone_marked g first v met G (λ e. h (got ∙ e)))

    module _ (h : m ≡ 65535) (d : ℕ) (q : d ≡ nth some v) where
      known : v < g.events
      known = omega (arith, size)

      new : nth first v ≡ 65535
      new = sym got ∙ h

      pub pass_bare : n ≤ d → Passed g first (v + 1) (Some met)
      pass_bare o =
          (omega (arith, S.darts), gone_bare g first v met G known new (λ e k r. omega (arith, S.darts, P.each e k, ap (nth some) r)))

      module _ (o : d < n) where
        inside : d < darts g
        inside = omega (arith, S.darts)

        own : event g d ≡ v
        own = ap (event g) q ∙ P.own v known (omega (arith, inside, q))

        pub pass_open : Returned g d (n - met) None → Passed g first (v + 1) None
        pass_open O = gone_open g first v met G known new D.kept d inside own D.known (n - met) (omega (arith, S.darts)) O

        pub pass_ring : (r : ℕ) → Returned g d (n - met) (Some r) → Passed g first (v + 1) (Some (met + r))
        pass_ring r W = (omega (arith, S.darts, W.0), gone_ring g first v met G known new D.kept d inside own r W.1)
