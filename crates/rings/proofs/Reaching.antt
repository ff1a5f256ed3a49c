-- The laws of the worklist: its rings are followed one after the other and their darts counted. Assumes nothing.
--   Closing g m q h t met   the rings of the first h darts of the queue have been followed and met so many darts; in rings, each event at the far
--                           end of a dart of theirs is marked
use mathlib.Core.Path.{◌≡◌, sym, ap, ◌∙◌, subst}
use mathlib.Core.List.{List}
use Prim.Native.Nat.{ℕ, ◌+◌, ◌-◌, ◌<◌, ◌≤◌}
use native.Mathlib.Omega.{arith}
use borrow.Author.Count.{below_more}
use lib.ListN.{length, replicate}
use Rattle.finite.proofs.Orbit.{apart_inj}
use Rattle.drawing.specs.Drawing.{Drawing, darts, event, twin}
use Rattle.drawing.specs.Conditions.{Rings}
use Rattle.drawing.proofs.Counted.{Tally, Turns, tally_none, tally_same, tally_ring, turns_all, refuse_open, rings_whole}
use Rattle.rules.specs.Chart.{drawing}
use Rattle.words.specs.Tables.{nth}
use Rattle.chart.specs.Shape.{Shape}
use Rattle.rings.specs.Joining.{Ground, From, start, along, Marked, Queued, Readied, Push, Lapped, Toured}
use Rattle.rings.specs.Rounds.{Open}
use Rattle.rings.proofs.Pushing.{empty, bare-all}

pub record Closing (g : Drawing) (m q : List ℕ) (h t met : ℕ) : Type 0 where
  pub queued : Queued g m q t
  pub within : h ≤ t
  pub few : met ≤ darts g
  pub first : Marked m (event g 0)
  pub told : Tally g (λ i. event g (nth q i)) h met
  pub shut : Rings g → (i : ℕ) → i < h → (d : ℕ) → d < darts g → event g d ≡ event g (nth q i) → Marked m (event g (twin d))

module _ {s : List ℕ} {n : ℕ} (S : Shape s n) (G : Ground (drawing s)) where
  abbrev g : Drawing
  g = drawing s

  -- the events of the queue are events, each once
  turns : (m q : List ℕ) (t : ℕ) → Queued g m q t → (k : ℕ) → k ≤ t → Turns g (λ i. event g (nth q i)) k
  turns m q t Q k l = (
    λ i h. G.known (nth q i) (Q.entry i (omega arith)).0,
    apart_inj k (λ i. event g (nth q i)) (λ i j a b. Q.once i j a (omega arith)),
  )

  pub ready_first : (m q : List ℕ) (k : ℕ) → m ≡ replicate k 65535 → k ≡ g.events → length q ≡ g.events → Readied g 0 m q 0
  ready_first m q k e p r = record { ground = G; dart = omega (arith, S.darts, S.some); queued = empty g m q k e p r; joined = start }

  pub opened : (m q m' q' : List ℕ) (t : ℕ) → Push g 0 m q 0 m' q' t → Closing g m' q' 0 t 0
  opened m q m' q' t P = record {
    queued = P.queued;
    within = omega arith;
    few = omega arith;
    first = P.here;
    told = tally_none g (λ i. event g (nth q' i));
    shut = λ R i l. absurd (omega arith);
  }

  module _ (m q : List ℕ) (h t met : ℕ) (C : Closing g m q h t met) where
    pub ends : t ≤ g.events
    ends = omega (arith, C.queued.count)

    pub met_few : met ≤ n
    met_few = omega (arith, C.few, S.darts)

    pub place : h < t → h < length q
    place l = omega (arith, ends, C.queued.room)

    module _ (l : h < t) (x : ℕ) (got : x ≡ nth q h) where
      inside : x < darts g
      inside = omega (arith, (C.queued.entry h l).0, got)

      pub ready : Readied g x m q t
      ready =
          let e = C.queued.entry h l in
          record {
            ground = G;
            dart = inside;
            queued = C.queued;
            joined =
                subst (λ (y : ℕ). From g (event g 0) (event g y)) (sym got)
                (C.queued.real (event g (nth q h)) (G.known (nth q h) e.0) e.1);
          }

      -- the walk does not come back within the darts left
      pub refused : Open g x (n - met) → Rings g → ⊥
      refused =
          refuse_open g (λ i. event g (nth q i)) h met C.told G.kept x inside (ap (event g) got) G.known
          (turns m q t C.queued (h + 1) (omega arith)) (n - met) (omega (arith, S.darts))

      module _ (m' q' : List ℕ) (t' k : ℕ) (P : Lapped g x (n - met) m q t m' q' t' k) where
        -- the same places of the queue, with what was pushed
        told : Tally g (λ i. event g (nth q' i)) h met
        told =
            tally_same g (λ i. event g (nth q i)) (λ i. event g (nth q' i)) h met
            (λ i j. ap (event g) (P.grown.same i (omega arith))) C.told

        there : event g x ≡ event g (nth q' h)
        there = ap (event g) (got ∙ sym (P.grown.same h l))

        pub onward : Closing g m' q' (h + 1) t' (met + k)
        onward = record {
          queued = P.queued;
          within = omega (arith, P.grown.longer);
          few = omega (arith, P.within, S.darts, C.few);
          first = P.grown.kept (event g 0) C.first;
          told = tally_ring g (λ i. event g (nth q' i)) h met told G.kept x inside there k P.ring;
          shut = λ R.
              below_more (λ (i : ℕ). (d : ℕ) → d < darts g → event g d ≡ event g (nth q' i) → Marked m' (event g (twin d))) h
              (λ i j d b r.
              P.grown.kept (event g (twin d))
              (C.shut R i j d b (r ∙ ap (event g) (P.grown.same i (omega arith)))))
              (λ d b r. P.ends R d b (r ∙ sym there));
        }

    module _ (l : t ≤ h) where
      closed : Rings g → {v : ℕ} → From g (event g 0) v → Marked m v
      closed R start = C.first
      closed R (along d k r) =
          let f = C.queued.found (event g d) (G.known d k) (closed R r) in
          C.shut R f.0 (omega (arith, f.1)) d k (sym f.2)

      pub followed : Toured g m met
      followed = record {
        size = C.queued.marks;
        few = C.few;
        whole = λ e.
            rings_whole g (λ i. event g (nth q i)) h met C.told G.kept G.known (turns m q t C.queued h C.within) e;
        short = λ o all R.
            let none = bare-all g m C.queued.marks (λ v k. all v (omega (arith, C.queued.marks))) in
            let every : h ≡ g.events = omega (arith, none, C.queued.count, C.within) in
            let T = turns m q t C.queued h C.within in
            omega (arith, C.told.exact R, turns_all g G.known (λ i. event g (nth q i)) h every T);
        met = λ R. record { size = C.queued.marks; own = C.queued.own; real = C.queued.real; each = λ v k f. closed R f };
        gone = record {
          turn = λ i. event g (nth q i);
          many = h;
          told = C.told;
          turns = turns m q t C.queued h C.within;
          each = λ u k r.
              let f = C.queued.found u k (r (omega arith)) in
              (f.0, omega (arith, f.1), f.2);
          only = λ i k r. (C.queued.entry i (omega (arith, C.within))).1;
        };
      }
