-- The laws of a ring followed: the events at the far ends of its darts are marked, and in rings these are all darts of the event. Assumes nothing.
--   Going g d m₀ q₀ t₀ m q t k e   the walk from d has come to e in k steps, without a return, and the events at the far ends of the darts before e
--                                  are marked
use mathlib.Core.Path.{◌≡◌, sym, ap, ◌∙◌, subst}
use mathlib.Core.Logic.{◌≢◌}
use mathlib.Core.List.{List}
use Prim.Native.Nat.{ℕ, ◌+◌, ◌<◌}
use native.Mathlib.Omega.{arith}
use borrow.Author.Count.{below_more}
use Rattle.finite.specs.Steps.{iter}
use Rattle.finite.proofs.Walk.{Walk, walk_start, walk-all}
use Rattle.drawing.specs.Drawing.{Drawing, darts, event, after, twin}
use Rattle.drawing.proofs.Twins.{twin_into}
use Rattle.drawing.proofs.Rounds.{Kept, goes_inside, goes_there, after_reach}
use Rattle.rules.specs.Chart.{drawing}
use Rattle.rules.proofs.Bytes.{darts_even}
use Rattle.chart.specs.Shape.{Shape}
use Rattle.rings.specs.Joining.{From, along, Marked, Queued, Readied, Grown, Push, Lapped}
use Rattle.rings.specs.Rounds.{Open}
use Rattle.rings.proofs.Laws.{walk_on, walk_back, walk_open}
use Rattle.rings.proofs.Pushing.{grown_none, grown_more}

pub record Going (g : Drawing) (d : ℕ) (m₀ q₀ : List ℕ) (t₀ : ℕ) (m q : List ℕ) (t k e : ℕ) : Type 0 where
  pub way : Walk (after g) d k e
  pub queued : Queued g m q t
  pub grown : Grown m₀ q₀ t₀ m q t
  pub ends : (i : ℕ) → i < k → Marked m (event g (twin (iter (after g) i d)))

module _ {s : List ℕ} {n : ℕ} (S : Shape s n) {d : ℕ} {m₀ q₀ : List ℕ} {t₀ : ℕ} (A : Readied (drawing s) d m₀ q₀ t₀) where
  abbrev g : Drawing
  g = drawing s

  abbrev K : Kept g
  K = A.ground.kept

  pub begin : Going g d m₀ q₀ t₀ m₀ q₀ t₀ 0 d
  begin = record { way = walk_start (after g) d; queued = A.queued; grown = grown_none m₀ q₀ t₀; ends = λ i l. absurd (omega arith) }

  module _ (m q : List ℕ) (t k e : ℕ) (G : Going g d m₀ q₀ t₀ m q t k e) where
    inside : e < darts g
    inside = rw G.way.here (goes_inside g K k d A.dart)

    there : event g e ≡ event g d
    there = ap (event g) G.way.here ∙ goes_there g K k d A.dart

    pub small : e < n
    small = omega (arith, inside, S.darts)

    -- no return within the steps that are left
    pub ended : (left : ℕ) → left ≡ k → Open g d left
    ended left o = walk_open g d k e G.way left o

    module _ (x : ℕ) (twins : x ≡ twin e) where
      pub ready : Readied g x m q t
      ready = record {
        ground = A.ground;
        dart = omega (arith, twins, twin_into (darts g) (darts_even s) e inside);
        queued = G.queued;
        joined =
            subst (λ (y : ℕ). From g (event g 0) (event g y)) (sym twins)
            (along e inside (subst (From g (event g 0)) (sym there) A.joined));
      }

      -- the code has the next dart as e'
      module _ (e' : ℕ) (m' q' : List ℕ) (t' : ℕ) (P : Push g x m q t m' q' t') (goes : e' ≡ after g e) where
        more : (i : ℕ) → i < k + 1 → Marked m' (event g (twin (iter (after g) i d)))
        more =
            below_more (λ (i : ℕ). Marked m' (event g (twin (iter (after g) i d)))) k
            (λ i l. P.grown.kept (event g (twin (iter (after g) i d))) (G.ends i l))
            (subst (λ (y : ℕ). Marked m' (event g y)) (twins ∙ ap twin G.way.here) P.here)

        pub turn : e' ≢ d → Going g d m₀ q₀ t₀ m' q' t' (k + 1) e'
        turn o = record {
          way = walk_on g d k e G.way e' goes o;
          queued = P.queued;
          grown = grown_more G.grown P.grown;
          ends = more;
        }

        pub done : e' ≡ d → (left : ℕ) → k < left → Lapped g d left m₀ q₀ t₀ m' q' t' (k + 1)
        done o left h = record {
          queued = P.queued;
          grown = grown_more G.grown P.grown;
          within = omega arith;
          ring = walk_back g d k e G.way e' goes o;
          ends = λ R y l r.
              let w = walk-all (after g) d k e G.way (sym goes ∙ o) y (after_reach g R d y A.dart l (sym r)) in
              subst (λ (z : ℕ). Marked m' (event g (twin z))) w.2 (more w.0 (omega (arith, w.1)));
        }
