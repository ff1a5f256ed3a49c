-- The laws of the flags of events, and that they tell the sources and sinks. Assumes nothing.
use mathlib.Core.Path.{◌≡◌, refl, sym, ap, ◌∙◌}
use mathlib.Core.Bool.{not}
use mathlib.Core.List.{List}
use Prim.Native.Nat.{ℕ, ◌+◌, ◌*◌, ◌/◌, ◌%◌, ◌<◌}
use native.Mathlib.Decide.{ℕ_discrete}
use native.Mathlib.Omega.{arith}
use borrow.Author.Tests.{eq-eqb, ne_eqb}
use lib.Dec.{eqb}
use lib.ListN.{length, set, replicate, length-set, length-replicate, get_or-replicate}
use lib.Seq.{get_or-set_same, get_or-set_other}
use Rattle.finite.specs.Sums.{bit, sum, δ, class}
use Rattle.finite.proofs.Sum.{δ-eq, δ_other}
use Rattle.drawing.specs.Drawing.{Drawing, event, enters, leaves, entering, leaving}
use Rattle.drawing.specs.Conditions.{EventsKnown}
use Rattle.rules.specs.Chart.{drawing}
use Rattle.chart.specs.Shape.{Shape}
use Rattle.chart.specs.Held.{Poled}
use Rattle.words.specs.Tables.{nth}
use Rattle.rooms.specs.Flags.{flags, Pole, Flagged, Decided}
use Rattle.finite.proofs.Tally.{class_more}

pub begin : (g : Drawing) (m : ℕ) (l : List ℕ) → m ≡ g.events → l ≡ replicate m 0 → Flagged g 0 0 l
unfolding class sum flags
begin g m l e q = record {
  size = ap length q ∙ length-replicate m 0 ∙ e;
  each = λ v h. ap (λ (x : List ℕ). nth x v) q ∙ get_or-replicate {A = ℕ} m v 0 0 (omega arith);
}

-- no dart is below 0
none : (g : Drawing) (v : ℕ) → class 0 (event g) enters v ≡ 0
unfolding class sum
none g v = refl

-- an arrow more, of whose darts the first leaves and the second enters
two_leave : (g : Drawing) (v a : ℕ) → class (2 * (a + 1)) (event g) leaves v ≡ class (2 * a) (event g) leaves v + δ (event g (2 * a)) v
two_leave g v a =
    let one : leaves (2 * a) ≡ 1 = omega arith in
    let zero : leaves (2 * a + 1) ≡ 0 = omega arith in
    let next : 2 * (a + 1) ≡ 2 * a + 1 + 1 = omega arith in
    rw (next, class_more (event g) leaves v (2 * a + 1), class_more (event g) leaves v (2 * a), one, zero) (omega arith)

two_enter : (g : Drawing) (v a : ℕ) → class (2 * (a + 1)) (event g) enters v ≡ class (2 * a) (event g) enters v + δ (event g (2 * a + 1)) v
two_enter g v a =
    let zero : enters (2 * a) ≡ 0 = omega arith in
    let one : enters (2 * a + 1) ≡ 1 = omega arith in
    let next : 2 * (a + 1) ≡ 2 * a + 1 + 1 = omega arith in
    rw (next, class_more (event g) enters v (2 * a + 1), class_more (event g) enters v (2 * a), one, zero) (omega arith)

-- one more arrow that leaves, where none enters yet; one more that enters
one_leaves : (a b : ℕ) → b ≡ 0 → 1 ≡ flags (a + 1) b
unfolding flags
one_leaves a b z = omega arith

one_enters : (a b : ℕ) → flags a b % 2 + 2 ≡ flags a (b + 1)
unfolding flags
one_enters a b = omega arith

module _ {s : List ℕ} {n : ℕ} (S : Shape s n) (known : EventsKnown (drawing s)) (a : ℕ) (h : a < n / 2) where
  abbrev g : Drawing
  g = drawing s

  -- the code has the tail as v
  module _ (l : List ℕ) (F : Flagged g (2 * a) 0 l) (v : ℕ) (at : v ≡ event g (2 * a)) where
    tail_in : v < length l
    tail_in = omega (arith, at, known (2 * a) (omega (arith, S.darts)), F.size)

    pub tail_more : Flagged g (2 * (a + 1)) 0 (set l v 1)
    tail_more = record {
      size = length-set l v 1 ∙ F.size;
      each = λ u k. rw (two_leave g u a) elim (ℕ_discrete u v) [
        | yes e ↦
            rw (e, δ-eq (event g (2 * a)) v (sym at), get_or-set_same l v 1 0 tail_in)
            (one_leaves (class (2 * a) (event g) leaves v) (class 0 (event g) enters v) (none g v))
        | no e ↦
            rw (δ_other (event g (2 * a)) u (λ r. e (sym (at ∙ r))), get_or-set_other l v u 1 0 e)
            (F.each u k ∙ ap (λ (x : ℕ). flags x (class 0 (event g) enters u)) (omega arith))
      ];
    }

  -- the code has the head as v
  module _ (l : List ℕ) (F : Flagged g n (2 * a) l) (v : ℕ) (at : v ≡ event g (2 * a + 1)) where
    inside : v < g.events
    inside = omega (arith, at, known (2 * a + 1) (omega (arith, S.darts)))

    head_in : v < length l
    head_in = omega (arith, inside, F.size)

    pub head_more : Flagged g n (2 * (a + 1)) (set l v (nth l v % 2 + 2))
    head_more = record {
      size = length-set l v (nth l v % 2 + 2) ∙ F.size;
      each = λ u k. rw (two_enter g u a) elim (ℕ_discrete u v) [
        | yes e ↦
            rw (e, δ-eq (event g (2 * a + 1)) v (sym at), get_or-set_same l v (nth l v % 2 + 2) 0 head_in)
            (ap (λ (y : ℕ). y % 2 + 2) (F.each v inside) ∙ one_enters (class n (event g) leaves v) (class (2 * a) (event g) enters v))
        | no e ↦
            rw (δ_other (event g (2 * a + 1)) u (λ r. e (sym (at ∙ r))), get_or-set_other l v u (nth l v % 2 + 2) 0 e)
            (F.each u k ∙ ap (flags (class n (event g) leaves u)) (omega arith))
      ];
    }

-- ---- the last pass

-- 3 are the flags of an event where some arrow leaves and some enters
pub pole_said : (x y : ℕ) → y ≡ bit (not (eqb x 3)) → Pole x y
unfolding Pole flags
pole_said x y e a b q =
    elim (ℕ_discrete b 0) [
      | yes z ↦ rw (e, ne_eqb x 3 (omega arith), eq-eqb b 0 z) refl
      | no z ↦ elim (ℕ_discrete a 0) [
        | yes w ↦ rw (e, ne_eqb x 3 (omega arith), ne_eqb b 0 z, eq-eqb a 0 w) refl
        | no w ↦ rw (e, eq-eqb x 3 (omega arith), ne_eqb b 0 z, ne_eqb a 0 w) refl
      ]
    ]

pub decided_more : (v : ℕ) (l m : List ℕ) → Decided v l m → v < length m → (x y : ℕ) → x ≡ nth m v → Pole x y → Decided (v + 1) l (set m v y)
decided_more v l m D h x y got p = record {
  size = length-set m v y ∙ D.size;
  done = λ u k. elim (ℕ_discrete u v) [
    | yes e ↦ rw (e, get_or-set_same m v y 0 h) (rw (got ∙ D.rest v (omega arith)) at p)
    | no e ↦ rw (get_or-set_other m v u y 0 e) (D.done u (omega arith))
  ];
  rest = λ u k. get_or-set_other m v u y 0 (λ e. omega arith) ∙ D.rest u (omega arith);
}

pub poled : (s : List ℕ) (n m : ℕ) (l l' : List ℕ) → Shape s n → Flagged (drawing s) n n l → Decided m l l' → m ≡ length l → Poled (drawing s) l'
unfolding entering leaving Pole
poled s n m l l' S F D e = record {
  size = D.size ∙ F.size;
  each = λ v h.
      let g = drawing s in
      D.done v (omega (arith, F.size)) (leaving g v) (entering g v)
      (F.each v h ∙ ap (λ (x : ℕ). flags (class x (event g) leaves v) (class x (event g) enters v)) S.darts);
}
