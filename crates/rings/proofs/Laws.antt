-- What the comparison of two events says, what the sum of the successors tells, and what following a ring answers. Assumes nothing.
--   Steady g d total       every dart below d is followed by a dart of its event, and their successors add up to total
use mathlib.Core.Path.{◌≡◌, refl, sym, ap, ◌∙◌}
use mathlib.Core.Logic.{◌≢◌}
use mathlib.Core.List.{List}
use Prim.Native.Nat.{ℕ, suc, ◌+◌, ◌*◌, ◌<◌, ◌≤◌}
use native.Mathlib.Decide.{ℕ_discrete}
use native.Mathlib.Numerals.{add-one}
use native.Mathlib.Omega.{arith}
use lib.Dec.{eqb}
use borrow.Author.Count.{below_more}
use Rattle.finite.specs.Says.{Says}
use Rattle.finite.specs.Sums.{sum}
use Rattle.finite.specs.Steps.{iter}
use Rattle.finite.proofs.Sum.{sum_mono, sum_const, sum-numbers}
use Rattle.finite.proofs.Yes.{says_as, says_equal}
use Rattle.finite.proofs.Walk.{Walk, walk_step}
use Rattle.drawing.specs.Drawing.{Drawing, darts, event, after}
use Rattle.drawing.proofs.Rounds.{Keeps, Kept}
use Rattle.drawing.proofs.Counted.{Level, Circled}
use Rattle.rules.specs.Chart.{drawing}
use Rattle.chart.specs.Shape.{Shape}
use Rattle.rings.specs.Rounds.{Open}

-- c is the successor of d, and x and y are their events
pub says_keeps : (g : Drawing) (d c x y : ℕ) → c ≡ after g d → c < darts g → x ≡ event g c → y ≡ event g d → Says (eqb x y) (Keeps g d)
says_keeps g d c x y p l q r =
    says_as (eqb x y) (λ e. (omega arith, ap (event g) (sym p) ∙ sym q ∙ e ∙ r)) (λ k. q ∙ ap (event g) p ∙ k.1 ∙ sym r) (says_equal x y)

-- ---- the successors of the darts below d

pub record Steady (g : Drawing) (d total : ℕ) : Type 0 where
  pub kept : (k : ℕ) → k < d → Keeps g k
  pub adds : total ≡ sum d (after g)

pub steady_start : (g : Drawing) → Steady g 0 0
unfolding sum
steady_start g = record { kept = λ k l. absurd (omega arith); adds = refl }

module _ (g : Drawing) (d total : ℕ) (S : Steady g d total) where
  -- both darts of an arrow
  pub steady_on : (b c : ℕ) → b ≡ after g d → Keeps g d → c ≡ after g (d + 1) → Keeps g (d + 1) → Steady g (d + 2) (total + (b + c))
  unfolding sum
  steady_on b c p k q h = record {
    kept = λ e l. elim (ℕ_discrete e (d + 1)) [ yes r ↦ rw r h | no r ↦ below_more (Keeps g) d S.kept k e (omega arith) ];
    adds = omega (arith, S.adds, sum_two);
  }
    where
      sum_two : sum (d + 2) (after g) ≡ sum d (after g) + after g d + after g (d + 1)
      sum_two = let r : d + 2 ≡ suc (suc d) = omega arith in rw (r, add-one) refl

  pub steady_few : darts g ≤ 6144 → total ≤ d * 6144
  steady_few few =
      omega (arith, S.adds, sum_mono d (after g) (λ k. 6144) (λ k l. omega (arith, (S.kept k l).0)), sum_const d 6144)

  pub steady_at : (n t : ℕ) → n ≡ d → t ≡ total → Steady g n t
  steady_at n t q r = rw (q, r) S

  -- the darts add up to d * (d - 1) / 2
  pub steady_done : d ≡ darts g → Says (eqb (2 * total + d) (d * d)) (Kept g × Level g)
  steady_done r =
      says_as (eqb (2 * total + d) (d * d)) (λ e. (λ k l. S.kept k (omega arith), rw (← r) (omega (arith, e, S.adds, sum-numbers d))))
      (λ h. omega (arith, rw (← r) at h.1, S.adds, sum-numbers d)) (says_equal (2 * total + d) (d * d))

-- n * n of few
pub square_few : (n : ℕ) → n ≤ 6144 → n * n ≤ 37748736
square_few n l = omega (arith, sum_const n n, sum_const n 6144, sum_mono n (λ k. n) (λ k. 6144) (λ k h. l))

-- ---- a walk from d that has come to c in k steps, without a return

-- the successor of a dart is a dart
pub walk_in : (s : List ℕ) (n : ℕ) → Shape s n → Kept (drawing s) → (c e : ℕ) → c < n → e ≡ after (drawing s) c → e < n
walk_in s n S K c e l q = omega (arith, S.darts, (K c (omega (arith, S.darts))).0)

module _ (g : Drawing) (d k c : ℕ) (W : Walk (after g) d k c) where
  pub walk_on : (e : ℕ) → e ≡ after g c → e ≢ d → Walk (after g) d (k + 1) e
  walk_on e q o = rw q (walk_step (after g) d k c W (λ r. o (q ∙ r)))

  pub walk_back : (e : ℕ) → e ≡ after g c → e ≡ d → Circled g d (k + 1)
  unfolding iter
  walk_back e q r = record {
    some = omega arith;
    back = rw add-one (ap (after g) (sym W.here) ∙ sym q ∙ r);
    fresh = λ j x y. W.fresh j x (omega arith);
  }

  pub walk_open : (left : ℕ) → left ≡ k → Open g d left
  walk_open left q = λ j x y. W.fresh j x (omega arith)
