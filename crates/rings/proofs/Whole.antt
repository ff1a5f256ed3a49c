-- The laws of test 10: the marks are counted, and every event has one exactly if the arrows join all. Assumes nothing.
use mathlib.Core.Path.{◌≡◌, refl, sym, ◌∙◌}
use mathlib.Core.Bool.{cond}
use mathlib.Core.List.{List, [], ◌∷◌}
use Prim.Native.Nat.{ℕ, zero, suc, ◌<◌, ◌≤◌}
use native.Mathlib.Decide.{dec_lt}
use native.Mathlib.Omega.{arith}
use lib.ListN.{length}
use lib.Dec.{eqb, ltb}
use Rattle.std.specs.List.{sum_by}
use Rattle.std.proofs.lemmas.List.Sums.{count_by-le-length, sum_by-cons}
use borrow.Author.Tests.{lt-ltb, le-ltb}
use Rattle.finite.specs.Says.{Says}
use Rattle.finite.proofs.Yes.{says_as, says_equal}
use Rattle.drawing.specs.Drawing.{Drawing, event}
use Rattle.drawing.specs.Conditions.{EventsKnown, Joined}
use Rattle.rules.specs.Chart.{drawing}
use Rattle.rules.proofs.Bytes.{darts_even}
use Rattle.words.specs.Tables.{nth}
use Rattle.chart.specs.Shape.{Shape}
use Rattle.rings.specs.Joining.{AllMarked, Met}
use Rattle.rings.proofs.Near.{joined_from, from_joined}

-- the number that is counted for an entry
abbrev pub one : ℕ → ℕ
one y = cond (ltb y 65535) 1 0

one_yes : (y : ℕ) → y < 65535 → one y ≡ 1
one_yes y l = simp (lt-ltb y 65535 l) refl

one_no : (y : ℕ) → 65535 ≤ y → one y ≡ 0
one_no y l = simp (le-ltb y 65535 l) refl

pub one_for : (y r : ℕ) → (y < 65535 → r ≡ 1) → (65535 ≤ y → r ≡ 0) → r ≡ one y
one_for y r few none = elim (dec_lt y 65535) [ yes l ↦ few l ∙ sym (one_yes y l) | no l ↦ none (omega arith) ∙ sym (one_no y (omega arith)) ]

pub marks_few : (first : List ℕ) → sum_by one first ≤ length first
marks_few first = count_by-le-length (λ y. ltb y 65535) first

full : (first : List ℕ) → sum_by one first ≡ length first → (v : ℕ) → v < length first → nth first v < 65535
full [] e v l = absurd (omega arith)
full (y ∷ first) e zero l = elim (dec_lt y 65535) [
  | yes k ↦ k
  | no k ↦ absurd (omega (arith, e, sum_by-cons one y first, one_no y (omega arith), marks_few first))
]
full (y ∷ first) e (suc v) l =
    full first (omega (arith, e, sum_by-cons one y first, count_by-le-length (λ x. ltb x 65535) (y ∷ []), marks_few first)) v (omega arith)

all_full : (first : List ℕ) → ((v : ℕ) → v < length first → nth first v < 65535) → sum_by one first ≡ length first
all_full [] h = refl
all_full (y ∷ first) h =
    omega (arith, sum_by-cons one y first, one_yes y (h 0 (omega arith)), all_full first (λ v l. h (suc v) (omega arith)))

-- of 16-bit numbers
pub says_all : (first : List ℕ) (k : ℕ) → k ≡ sum_by one first → ((j : ℕ) → nth first j < 65536)
    → Says (eqb k (length first)) (AllMarked first)
says_all first k q few =
    says_as (eqb k (length first))
    (λ e v l r. omega (arith, full first (sym q ∙ e) v l))
    (λ h. q ∙ all_full first (λ v l. omega (arith, few v, h v l)))
    (says_equal k (length first))

-- where first has the events joined with dart 0's
module _ {s : List ℕ} {n : ℕ} (S : Shape s n) (E : EventsKnown (drawing s)) (first : List ℕ) (M : Met (drawing s) first) where
  abbrev g : Drawing
  g = drawing s

  known : event g 0 < g.events
  known = E 0 (omega (arith, S.darts, S.some))

  pub all_joined : AllMarked first → Joined g
  all_joined h = from_joined g (darts_even s) (event g 0) known (omega (arith, known)) (λ v l. M.real v l (h v (omega (arith, M.size))))

  pub joined_all : Joined g → AllMarked first
  joined_all J v l =
      let i : v < g.events = omega (arith, M.size) in
      M.each v i (joined_from g (darts_even s) (event g 0) known J v i)
