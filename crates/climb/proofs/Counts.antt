-- The worklist's start: the arrows that enter each event counted, and the events that none enters listed. Assumes nothing.
--   Tallied g left a        left has how many of the arrows below a enter each event
--   Upto left list v t      the first t entries of list are the events below v with 0 in left, each once
use mathlib.Core.Path.{◌≡◌, sym, ap, ◌∙◌}
use mathlib.Core.List.{List}
use Prim.Native.Nat.{ℕ, suc, ◌+◌, ◌*◌, ◌<◌, ◌≤◌}
use native.Mathlib.Decide.{ℕ_discrete}
use native.Mathlib.Omega.{arith}
use borrow.Author.Count.{below_more}
use lib.ListN.{length, set, length-set, replicate, length-replicate, get_or-replicate}
use lib.Seq.{get_or-set_same, get_or-set_other}
use Rattle.finite.specs.Sums.{sum, δ}
use Rattle.finite.specs.Steps.{Inj}
use Rattle.finite.proofs.Sum.{sum_mono, sum_const, sum_term, δ-eq, δ_other}
use Rattle.finite.proofs.Perm.{inj_le}
use Rattle.drawing.specs.Drawing.{Drawing, darts, arrows, head}
use Rattle.drawing.specs.Conditions.{EventsKnown}
use Rattle.words.specs.Tables.{nth}
use Rattle.climb.specs.Peel.{toward, comers, Counted, Waiting, Peeled, Sourced, free, other}
use Rattle.climb.proofs.Peels.{toward-enters, toward-leaves, toward-le, arrow_toward}

pub record Tallied (g : Drawing) (left : List ℕ) (a : ℕ) : Type 0 where
  pub size : length left ≡ g.events
  pub each : (v : ℕ) → v < g.events → nth left v ≡ sum (2 * a) (toward g v)

pub tallied_start : (g : Drawing) (left : List ℕ) (k : ℕ) → left ≡ replicate k 0 → k ≡ g.events → Tallied g left 0
unfolding sum
tallied_start g left k q size = record {
  size = ap length q ∙ length-replicate k 0 ∙ size;
  each = λ v l. ap (λ (x : List ℕ). nth x v) q ∙ get_or-replicate k v 0 0 (omega arith);
}

module _ (g : Drawing) (left : List ℕ) (a : ℕ) (T : Tallied g left a) where
  pub tallied_few : (v : ℕ) → v < g.events → nth left v ≤ 2 * a
  tallied_few v l = omega (arith, T.each v l, sum_mono (2 * a) (toward g v) (λ d. 1) (λ d h. toward-le g v d), sum_const (2 * a) 1)

  two : (v : ℕ) → sum (2 * (a + 1)) (toward g v) ≡ sum (2 * a) (toward g v) + δ (head g a) v
  unfolding sum
  two v =
      let e : 2 * (a + 1) ≡ suc (suc (2 * a)) = omega arith in
      rw e (omega (arith, toward-leaves g v (2 * a) (omega arith), toward-enters g v (suc (2 * a)) (omega arith)))

  pub tallied_step : EventsKnown g → a < arrows g → (v x : ℕ) → v ≡ head g a → x ≡ nth left v → Tallied g (set left v (x + 1)) (a + 1)
  tallied_step known l v x q r = record {
    size = length-set left v (x + 1) ∙ T.size;
    each = λ u h. elim (ℕ_discrete u v) [
      | yes e ↦
          let here : nth (set left v (x + 1)) u ≡ x + 1 = ap (nth (set left v (x + 1))) e ∙ get_or-set_same left v (x + 1) 0 (omega (arith, T.size)) in
          omega (arith, two u, T.each u h, ap (nth left) e, δ-eq (head g a) u (sym q ∙ sym e))
      | no e ↦ omega (arith, two u, T.each u h, get_or-set_other left v u (x + 1) 0 e, δ_other (head g a) u (λ z. e (sym z ∙ sym q)))
    ];
  }

-- ---- the events that no arrow enters

pub record Upto (left list : List ℕ) (v t : ℕ) : Type 0 where
  pub room : length list ≡ length left
  pub inside : (i : ℕ) → i < t → nth list i < v
  pub once : Inj t (nth list)
  pub gone : (i : ℕ) → i < t → nth left (nth list i) ≡ 0
  pub found : (u : ℕ) → u < v → nth left u ≡ 0 → (i : ℕ) × (i < t) × (nth list i ≡ u)

module _ (left list : List ℕ) (v t : ℕ) (U : Upto left list v t) where
  pub upto_few : t ≤ v
  upto_few = inj_le t v (nth list) U.once U.inside

  pub upto_step : v < length left → (list' : List ℕ) (t' : ℕ) → Sourced left list t v list' t' → Upto left list' (v + 1) t'
  upto_step l list' t' (other some S) = record {
    room = S.0 ∙ U.room;
    inside = λ i h. omega (arith, S.1 i h, U.inside i h);
    once = λ i j a b q. U.once i j a b (sym (S.1 i a) ∙ q ∙ S.1 j b);
    gone = λ i h. ap (nth left) (S.1 i h) ∙ U.gone i h;
    found = below_more (λ (u : ℕ). nth left u ≡ 0 → (i : ℕ) × (i < t) × (nth list' i ≡ u)) v
        (λ u h w. let f = U.found u h w in (f.0, f.1, S.1 f.0 f.1 ∙ f.2)) (λ z. absurd (omega arith));
  }
  upto_step l list' t' (free z) =
      let new : List ℕ = set list t v in
      let old : (i : ℕ) → i < t → nth new i ≡ nth list i = λ i h. get_or-set_other list t i v 0 (λ q. omega arith) in
      let end : nth new t ≡ v = get_or-set_same list t v 0 (omega (arith, upto_few, U.room)) in
      let fresh : (i : ℕ) → i < t → nth new i ≡ v → ⊥ = λ i h q. omega (arith, U.inside i h, old i h) in
      record {
        room = length-set list t v ∙ U.room;
        inside = below_more (λ (i : ℕ). nth new i < v + 1) t (λ i h. omega (arith, old i h, U.inside i h)) (omega (arith, end));
        once = λ i j a b q. elim (ℕ_discrete i t) [
          | yes x ↦ elim (ℕ_discrete j t) [ yes y ↦ x ∙ sym y | no y ↦ absurd (fresh j (omega arith) (sym q ∙ ap (nth new) x ∙ end)) ]
          | no x ↦ elim (ℕ_discrete j t) [
            | yes y ↦ absurd (fresh i (omega arith) (q ∙ ap (nth new) y ∙ end))
            | no y ↦ U.once i j (omega arith) (omega arith) (sym (old i (omega arith)) ∙ q ∙ old j (omega arith))
          ]
        ];
        gone = below_more (λ (i : ℕ). nth left (nth new i) ≡ 0) t (λ i h. ap (nth left) (old i h) ∙ U.gone i h) (ap (nth left) end ∙ z);
        found = below_more (λ (u : ℕ). nth left u ≡ 0 → (i : ℕ) × (i < t + 1) × (nth new i ≡ u)) v
            (λ u h w. let f = U.found u h w in let k : f.0 < t = f.1 in (f.0, omega arith, old f.0 k ∙ f.2)) (λ w. (t, omega arith, end));
      }

pub peeled_start : (g : Drawing) (left list : List ℕ) (t : ℕ) → EventsKnown g → Counted g left → Waiting left list t → Peeled g left list 0 t
unfolding sum
peeled_start g left list t known C W = record {
  size = C.size;
  seen = omega arith;
  waiting = W;
  order = λ i a l al q.
      let b : nth list i < g.events = omega (arith, W.inside i l, C.size) in
      absurd (omega (
        arith,
        sum_term (darts g) (toward g (head g a)) (2 * a) (omega arith),
        arrow_toward g a,
        ap (comers g) q,
        C.each (nth list i) b,
        W.gone i l,
      ));
  counts = λ v l. omega (arith, C.each v l);
}
