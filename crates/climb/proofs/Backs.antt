-- Going back among the events left: an entering arrow for each, a turn, its lowest arrow, its arrows written. Assumes nothing.
--   Looked g left into a e     of the arrows below a, each between events left has an arrow stored at its head; and then e is left
--   Lowered g into s c best    on the way back from s to c, best has the lowest arrow
use mathlib.Core.Path.{◌≡◌, refl, sym, ap, ◌∙◌}
use mathlib.Core.Logic.{◌≢◌, inl, inr}
use mathlib.Core.List.{List, ◌++◌}
use Prim.Native.Nat.{ℕ, zero, suc, ◌+◌, ◌-◌, ◌*◌, ◌<◌, ◌≤◌}
use native.Mathlib.Decide.{ℕ_discrete, dec_lt}
use native.Mathlib.Numerals.{add-one}
use native.Mathlib.Omega.{arith}
use borrow.Author.Count.{below_more}
use lib.ListN.{length, set, take, length-set, length-append}
use lib.Seq.{get_or-set_same, get_or-set_other}
use Rattle.finite.specs.Steps.{iter}
use Rattle.finite.proofs.Perm.{inj_le}
use Rattle.finite.proofs.Orbit.{iter-add, cycle, fresh_inj}
use Rattle.finite.proofs.Walk.{Walk, walk_start, walk_step}
use Rattle.drawing.specs.Drawing.{Drawing, arrows, tail, head}
use Rattle.drawing.specs.Conditions.{EventsKnown}
use Rattle.drawing.proofs.Climb.{back, before, Enters, Turning, Turn, Lowest, first_turn, turning_before, far_turns, turn_circle, turn-lowest}
use Rattle.words.specs.Tables.{nth}
use Rattle.std.specs.Prelude.{Some}
use Rattle.std.proofs.lemmas.List.{take_at}
use Rattle.climb.specs.Evidence.{CircleFound}
use Rattle.climb.specs.Back.{Kept, Entering, live, dead, Chosen, Lower, Written}
use Rattle.finite.proofs.Ahead.{ahead, nearer}

-- ---- an entering arrow for each event left

-- an arrow that enters v, from an event left, stands at v
abbrev Good : Drawing → List ℕ → List ℕ → ℕ → Type 0
Good g left into v = Enters g (nth into) v × (0 < nth left (back g (nth into) v))

pub record Looked (g : Drawing) (left into : List ℕ) (a e : ℕ) : Type 0 where
  pub size : length into ≡ g.events
  pub each : (b : ℕ) → b < a → 0 < nth left (tail g b) → 0 < nth left (head g b) → Good g left into (head g b) × ((e < g.events) × (0 < nth left e))

module _ (g : Drawing) (left into : List ℕ) (a e : ℕ) (L : Looked g left into a e) where
  pub looked_step : EventsKnown g → a < arrows g → (into' : List ℕ) (e' : ℕ) → Entering g left into a e into' e' → Looked g left into' (a + 1) e'
  looked_step known l into' e' (dead idle) = record {
    size = L.size;
    each =
        below_more (λ (b : ℕ). 0 < nth left (tail g b) → 0 < nth left (head g b) → Good g left into (head g b) × ((e < g.events) × (0 < nth left e))) a L.each
        (λ t h. absurd (idle t h));
  }
  looked_step known l into' e' (live t h) =
      let v : ℕ = head g a in
      let k : v < g.events = known (2 * a + 1) (omega arith) in
      let new : List ℕ = set into v a in
      let here : Good g left new v = rw (get_or-set_same into v a 0 (omega (arith, L.size))) ((l, refl), t) in
      record {
        size = length-set into v a ∙ L.size;
        each =
            below_more (λ (b : ℕ). 0 < nth left (tail g b) → 0 < nth left (head g b) → Good g left new (head g b) × ((v < g.events) × (0 < nth left v))) a
            (λ b j s u. (
              elim (ℕ_discrete (head g b) v) [
                | yes q ↦ rw q here
                | no q ↦ rw (get_or-set_other into v (head g b) a 0 q) (L.each b j s u).0
              ],
              (k, h),
            ))
            (λ s u. (here, (k, h)));
      }

  pub looked_done : Kept g left → arrows g ≡ a → Chosen g left into e
  looked_done K q = record {
    size = L.size;
    here = let s = K.some in let b = K.each s.0 s.1 s.2 in
        (L.each b.0 (let h : b.0 < arrows g = b.1 in omega arith) b.2.1 (rw b.2.0 s.2)).1;
    each = λ v l pos. let b = K.each v l pos in
        rw b.2.0 at (L.each b.0 (let h : b.0 < arrows g = b.1 in omega arith) b.2.1 (rw b.2.0 pos)).0;
  }

-- ---- far back

pub way_start : (g : Drawing) (into : List ℕ) (e : ℕ) → e ≡ before g (nth into) e 0
unfolding iter
way_start g into e = refl

module _ (g : Drawing) (known : EventsKnown g) (left into : List ℕ) (e : ℕ) (C : Chosen g left into e) where
  stays : (k : ℕ) → (before g (nth into) e k < g.events) × (0 < nth left (before g (nth into) e k))
  unfolding iter
  stays zero = C.here
  stays (suc k) =
      let t = stays k in
      let c = C.each (before g (nth into) e k) t.0 t.1 in
      (known (2 * nth into (before g (nth into) e k)) (let h = c.0.0 in omega (arith, h)), c.1)

  on_way : (k : ℕ) → Enters g (nth into) (before g (nth into) e k) × (before g (nth into) e k < g.events)
  on_way k = let t = stays k in ((C.each (before g (nth into) e k) t.0 t.1).0, t.0)

  -- where the code is after k steps
  module _ (k v : ℕ) (q : v ≡ before g (nth into) e k) where
    pub way_at : Enters g (nth into) v × (v < g.events)
    way_at = rw q (on_way k)

    pub way_next : (r : ℕ) → r ≡ back g (nth into) v → r ≡ before g (nth into) e (k + 1)
    unfolding iter
    way_next r z = rw add-one (z ∙ ap (back g (nth into)) q)

    pub far : g.events ≡ k → Turning g (nth into) v
    far z = rw (q, ← z) (far_turns g (nth into) g.events e on_way)

-- ---- the turn

module _ (g : Drawing) (known : EventsKnown g) (into : List ℕ) (s : ℕ) (T : Turning g (nth into) s) where
  abbrev p : ℕ → ℕ
  p = back g (nth into)

  turning_small : (k : ℕ) → before g (nth into) s k < g.events
  turning_small k =
      let t = T.each k in
      let h = known (2 * nth into (before g (nth into) s k) + 1) (let a = t.0 in omega (arith, a)) in
      omega (arith, h, t.1)

  turn_few : (m : ℕ) → Turn g (nth into) s m → m ≤ g.events
  turn_few m U = inj_le m g.events (before g (nth into) s) (fresh_inj p s m U.returns U.fresh) (λ k l. turning_small k)

  pub turn_steps : (k c : ℕ) → Walk p s k c → k < g.events
  turn_steps k c W =
      let t = first_turn g (nth into) s T in
      elim (dec_lt k t.0) [
        | yes l ↦ omega (arith, turn_few t.0 t.1)
        | no l ↦ absurd (W.fresh t.0 t.1.some (omega arith) t.1.returns)
      ]

  pub turn_nearer : (k c e : ℕ) → Walk p s k c → e ≡ p c → e ≢ s → ahead g.events p s (p e) < ahead g.events p s (p c)
  turn_nearer k c e W q z =
      let t = first_turn g (nth into) s T in
      rw q (nearer p s g.events t.0 c t.1.some (turn_few t.0 t.1) t.1.returns (k, sym W.here) (λ r. z (q ∙ r)))

  pub turn_again : (k c e : ℕ) → Walk p s k c → e ≡ p c → e ≢ s → Walk p s (k + 1) e
  turn_again k c e W q z = rw q (walk_step p s k c W (λ r. z (q ∙ r)))

  -- how long the turn is
  pub turn_done : (k c e : ℕ) → Walk p s k c → e ≡ p c → e ≡ s → Turn g (nth into) s (k + 1) × (k + 1 ≤ g.events)
  unfolding iter
  turn_done k c e W q z = (U, turn_few (k + 1) U)
    where
      U : Turn g (nth into) s (k + 1)
      U = record {
        each = T.each;
        some = omega arith;
        returns = rw add-one (sym (ap p W.here) ∙ sym q ∙ z);
        fresh = λ j a b. W.fresh j a (omega arith);
      }

-- ---- its lowest arrow

pub record Lowered (g : Drawing) (into : List ℕ) (s c best : ℕ) : Type 0 where
  pub steps : ℕ
  pub walk : Walk (back g (nth into)) s steps c
  pub met : (j : ℕ) × (best ≡ before g (nth into) s j)
  pub low : (i : ℕ) → i ≤ steps → nth into best ≤ nth into (before g (nth into) s i)

pub lowered_start : (g : Drawing) (into : List ℕ) (s : ℕ) → Lowered g into s s s
unfolding iter
lowered_start g into s = record {
  steps = 0;
  walk = walk_start (back g (nth into)) s;
  met = (0, refl);
  low = λ i l. let z : i ≡ 0 = omega arith in rw z (omega arith);
}

module _ (g : Drawing) (known : EventsKnown g) (into : List ℕ) (s c best : ℕ) (T : Turning g (nth into) s) (L : Lowered g into s c best) where
  module _ (e : ℕ) (q : e ≡ back g (nth into) c) where
    pub lowered_step : e ≢ s → (best' : ℕ) → Lower into best e best' → Lowered g into s e best'
    unfolding iter
    lowered_step z best' B =
        let at : e ≡ before g (nth into) s (suc L.steps) = q ∙ ap (back g (nth into)) L.walk.here in
        record {
          steps = L.steps + 1;
          walk = rw q (walk_step (back g (nth into)) s L.steps c L.walk (λ r. z (q ∙ r)));
          met = elim B.one [ inl r ↦ (L.met.0, r ∙ L.met.1) | inr r ↦ (suc L.steps, r ∙ at) ];
          low = λ i l. elim (ℕ_discrete i (suc L.steps)) [
            | yes x ↦ rw x (omega (arith, B.second, ap (nth into) at))
            | no x ↦ omega (arith, B.first, L.low i (omega arith))
          ];
        }

    pub lowered_done : e ≡ s → Turning g (nth into) best × Lowest g (nth into) best
    unfolding iter
    lowered_done z = rw L.met.1 (
      turning_before g (nth into) s L.met.0 T,
      λ k.
          let r = cycle (back g (nth into)) s (suc L.steps) (omega arith) (sym (ap (back g (nth into)) L.walk.here) ∙ sym q ∙ z) (k + L.met.0) in
          let h : r.0 < suc L.steps = r.1 in
          omega (
            arith,
            L.low r.0 (omega arith),
            ap (nth into) L.met.1,
            ap (nth into) r.2,
            ap (nth into) (iter-add (back g (nth into)) k L.met.0 s),
          ),
    )

-- ---- the arrows written, from the last to the first

pub record Writing (g : Drawing) (into : List ℕ) (s n : ℕ) (out : List ℕ) (i e : ℕ) : Type 0 where
  pub size : length out ≡ n
  pub rest : i ≤ n
  pub here : e ≡ before g (nth into) s (n - i)
  pub each : (j : ℕ) → i ≤ j → j < n → nth out j ≡ nth into (before g (nth into) s (n - j))

pub writing_start : (g : Drawing) (into : List ℕ) (s : ℕ) (out : List ℕ) → Writing g into s (length out) out (length out) s
unfolding iter
writing_start g into s out =
    let n : ℕ = length out in
    let z : n - n ≡ 0 = omega arith in
    record { size = refl; rest = omega arith; here = rw z refl; each = λ j a b. absurd (omega arith) }

module _ (g : Drawing) (into : List ℕ) (s n : ℕ) (out : List ℕ) (i e : ℕ) (W : Writing g into s n out i e) where
  pub writing_step : 0 < i → (e' : ℕ) → e' ≡ back g (nth into) e → Writing g into s n (set out (i - 1) (nth into e')) (i - 1) e'
  unfolding iter
  writing_step some e' q =
      let x : ℕ = nth into e' in
      let next : n - (i - 1) ≡ suc (n - i) = omega (arith, W.rest) in
      let at : e' ≡ before g (nth into) s (n - (i - 1)) = q ∙ ap (back g (nth into)) W.here ∙ ap (before g (nth into) s) (sym next) in
      record {
        size = length-set out (i - 1) x ∙ W.size;
        rest = omega (arith, W.rest);
        here = at;
        each = λ j a b. elim (ℕ_discrete j (i - 1)) [
          | yes z ↦ rw z (get_or-set_same out (i - 1) x 0 (omega (arith, W.size, W.rest)) ∙ ap (nth into) at)
          | no z ↦ get_or-set_other out (i - 1) j x 0 z ∙ W.each j (omega arith) b
        ];
      }

-- the arrows stand at the front of the table out ++ rest
pub circle_found : (g : Drawing) (into out rest : List ℕ) (s m : ℕ) → length out ≡ m → Turn g (nth into) s m → Lowest g (nth into) s → Written g into s out
    → CircleFound g (out ++ rest) (Some m)
circle_found g into out rest s m size T low W =
    let front : take m (out ++ rest) ≡ out = take_at out rest m size in (
      T.some,
      omega (arith, length-append out rest),
      rw front (turn_circle g (nth into) s m T out size entry),
      rw front (turn-lowest g (nth into) s m T out size entry low),
    )
  where
    entry : (i : ℕ) → i < m → nth out i ≡ nth into (before g (nth into) s (m - i))
    entry = rw size at W
