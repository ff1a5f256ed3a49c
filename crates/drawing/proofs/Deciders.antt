-- Decisions for the conditions of a drawing, to be computed at a given one: whole decisions for what is bounded, and tests with a law for the rest.
-- Assumes nothing.
use mathlib.Core.Path.{◌≡◌, ap, subst}
use mathlib.Core.Logic.{◌≢◌, ◌⊎◌}
use mathlib.Core.Bool.{Bool, true, false, cond, not}
use mathlib.Core.List.{List, [], ◌∷◌, ◌++◌}
use mathlib.Core.Option.{Option, none, some}
use Prim.Native.Nat.{ℕ, zero, suc, ◌+◌, ◌≤◌, ◌<◌, max}
use native.Mathlib.Omega.{arith}
use lib.Dec.{T, eqb, T_not}
use lib.ListN.{length, get_or}
use lib.IntN.{pos}
use lib.Signed.{lt_z}
use Rattle.finite.specs.Sums.{bit}
use Rattle.finite.specs.Steps.{iter}
use Rattle.finite.proofs.Decide.{is_yes, is_yes_lem, map?, ◌×?◌, ◌⊎?◌, ◌→?◌, ¬?, T?, eq?, le?, lt?, all?, any?, all_of?, distinct?, ascending?}
use Rattle.drawing.specs.Drawing.{Drawing, darts, arrows, event, after, tail, head, twin, face, outer_face, plain, switch, corners, pole}
use Rattle.drawing.specs.Conditions.{Rings, Reached, first, along, Joined, Runs, Round, Circle, label, larges, labels, Labelling, room_of, Cut}

-- ---- the bounded conditions

unfoldable pub rings? : (g : Drawing) → Dec (Rings g)
unfolding eq? le? all? any?
rings? g =
    map?
    (λ h. record { inside = h.0; stays = h.1.0; meets = λ d e p q. h.1.1 d p e q })
    (λ r. (r.inside, (r.stays, λ d p e q. r.meets d e p q)))
    (all? (darts g) (λ d. after g d < darts g) (λ d. lt? (after g d) (darts g))
    ×? all? (darts g) (λ d. event g (after g d) ≡ event g d) (λ d. eq? (event g (after g d)) (event g d))
    ×? all? (darts g) (λ d. (e : ℕ) → e < darts g → event g d ≡ event g e → (k : ℕ) × (k < darts g) × (iter (after g) k d ≡ e)) (λ d.
    all? (darts g) (λ e. event g d ≡ event g e → (k : ℕ) × (k < darts g) × (iter (after g) k d ≡ e)) (λ e.
    eq? (event g d) (event g e) →? any? (darts g) (λ k. iter (after g) k d ≡ e) (λ k. eq? (iter (after g) k d) e))))

abbrev pub runs? : (g : Drawing) (u : ℕ) (l : List ℕ) (v : ℕ) → Dec (Runs g u l v)
runs? g u [] v = eq? u v
runs? g u (a ∷ l) v = map? (λ h. (h.0, h.1.0, h.1.1)) (λ h. (h.0, (h.1, h.2))) (lt? a (arrows g) ×? eq? (tail g a) u ×? runs? g (head g a) l v)

abbrev pub round? : (g : Drawing) (l : List ℕ) → Dec (Round g l)
round? g [] = no (λ h. h)
round? g (a ∷ l) = runs? g (tail g a) (a ∷ l) (tail g a)

unfoldable pub circle? : (g : Drawing) (l : List ℕ) → Dec (Circle g l)
unfolding eq? le?
circle? g l = map? (λ h. record { distinct = h.0; round = h.1 }) (λ c. (c.distinct, c.round)) (distinct? l ×? round? g l)

unfoldable pub labelling? : (g : Drawing) (l : List ℕ) → Dec (Labelling g l)
unfolding eq? le? all?
labelling? g l =
    map?
    (λ h. record { size = h.0; plains = h.1.0; switches = h.1.1.0; events = h.1.1.1.0; inner = h.1.1.1.1.0; outer = h.1.1.1.1.1 })
    (λ r. (r.size, (r.plains, (r.switches, (r.events, (r.inner, r.outer))))))
    (eq? (length l) (darts g)
    ×? all? (darts g) (λ c. plain g c ≡ 1 → label l c ≡ 1) (λ c. eq? (plain g c) 1 →? eq? (label l c) 1)
    ×? all? (darts g) (λ c. switch g c ≡ 1 → (label l c ≡ 0) ⊎ (label l c ≡ 2)) (λ c. eq? (switch g c) 1 →? (eq? (label l c) 0 ⊎? eq? (label l c) 2))
    ×? all? g.events (λ v. larges g l v ≡ bit (pole g v)) (λ v. eq? (larges g l v) (bit (pole g v)))
    ×? all? (darts g) (λ f. face g f ≡ f → f ≢ outer_face g → labels g l f + 2 ≡ corners g f) (λ f.
    eq? (face g f) f →? (¬? (eq? f (outer_face g)) →? eq? (labels g l f + 2) (corners g f)))
    ×? eq? (labels g l (outer_face g)) (corners g (outer_face g) + 2))

unfoldable pub cut? : (g : Drawing) (l : List ℕ) → Dec (Cut g l)
unfolding eq? le?
cut? g l =
    map?
    (λ h. record { ascending = h.0; poles = h.1.0; larger = record { lt = h.1.1 } })
    (λ r. (r.ascending, (r.poles, r.larger.lt)))
    (ascending? l
    ×? all_of? (λ v. (v < g.events) × T (pole g v)) (λ v. lt? v g.events ×? T? (pole g v)) l
    ×? T? (lt_z (room_of g l) (pos (length l))))

-- ---- joined: the events known to be reached, each with its path, grown from event 0

abbrev pub Known : Drawing → Type 0
Known g = List ((v : ℕ) × Reached g v)

abbrev pub if_here : {g : Drawing} {u : ℕ} (v : ℕ) → Reached g u → Dec (u ≡ v) → Option (Reached g v) → Option (Reached g v)
if_here {g} v r (yes e) rest = some (subst (Reached g) e r)
if_here v r (no h) rest = rest

unfoldable pub find : (g : Drawing) (v : ℕ) → Known g → Option (Reached g v)
unfolding eq?
find g v [] = none
find g v (p ∷ l) = if_here v p.1 (eq? p.0 v) (find g v l)

abbrev pub is_some : {A : Type 0} → Option A → Bool
is_some none = false
is_some (some a) = true

pub is_some_lem : {A : Type 0} (o : Option A) → T (is_some o) → A
is_some_lem none t = absurd t
is_some_lem (some a) t = a

-- the far end of dart d, where its near end is known and it is not
abbrev pub grow : (g : Drawing) (d : ℕ) → Dec (d < darts g) → Option (Reached g (event g d)) → Option (Reached g (event g (twin d))) → Known g → Known g
grow g d (yes h) (some r) none l = (event g (twin d), along d h r) ∷ l
grow g d (yes h) (some r) (some q) l = l
grow g d (yes h) none o l = l
grow g d (no h) o p l = l

unfoldable pub pass : (g : Drawing) → ℕ → Known g → Known g
unfolding find le?
pass g zero l = l
pass g (suc d) l = let m = pass g d l in grow g d (lt? d (darts g)) (find g (event g d) m) (find g (event g (twin d)) m) m

unfoldable pub known : (g : Drawing) → ℕ → Known g
unfolding pass
known g zero = (0, first) ∷ []
known g (suc k) = pass g (darts g) (known g k)

abbrev pub has : (g : Drawing) → Known g → ℕ → Bool
has g l v = is_some (find g v l)

-- every event is known
unfoldable pub joined? : (g : Drawing) (l : Known g) → Dec ((v : ℕ) → v < g.events → T (has g l v))
unfolding all? find
joined? g l = all? g.events (λ v. T (has g l v)) (λ v. T? (has g l v))

pub joined_law : (g : Drawing) (l : Known g) → T (is_yes (joined? g l)) → Joined g
joined_law g l t v h = is_some_lem (find g v l) (is_yes_lem (joined? g l) t v h)

-- the known are closed under the arrows, and some event is not known
pub record Parted (g : Drawing) (l : Known g) : Type 0 where
  pub zero_in : T (has g l 0)
  pub closed : (d : ℕ) → d < darts g → T (has g l (event g d)) → T (has g l (event g (twin d)))
  pub out : (v : ℕ) × (v < g.events) × T (not (has g l v))

unfoldable pub parted? : (g : Drawing) (l : Known g) → Dec (Parted g l)
unfolding all? any? find
parted? g l =
    map? (λ h. record { zero_in = h.0; closed = h.1.0; out = h.1.1 }) (λ r. (r.zero_in, (r.closed, r.out)))
    (T? (has g l 0)
    ×? all? (darts g) (λ d. T (has g l (event g d)) → T (has g l (event g (twin d)))) (λ d. T? (has g l (event g d)) →? T? (has g l (event g (twin d))))
    ×? any? g.events (λ v. T (not (has g l v))) (λ v. T? (not (has g l v))))

in-closed : (g : Drawing) (l : Known g) → Parted g l → (v : ℕ) → Reached g v → T (has g l v)
in-closed g l p v first = p.zero_in
in-closed g l p v (along d h r) = p.closed d h (in-closed g l p (event g d) r)

pub parted_law : (g : Drawing) (l : Known g) → T (is_yes (parted? g l)) → ¬ Joined g
parted_law g l t j =
    let p = is_yes_lem (parted? g l) t in
    T_not (has g l p.out.0) p.out.2 (in-closed g l p p.out.0 (j p.out.0 p.out.1))

-- ---- no circle: a level for each event, which every arrow climbs

unfoldable pub tab : {A : Type 0} → ℕ → (ℕ → A) → List A
tab zero f = []
tab (suc n) f = tab n f ++ (f n ∷ [])

unfoldable pub greatest : ℕ → (ℕ → ℕ) → ℕ
greatest zero f = 0
greatest (suc n) f = max (greatest n f) (f n)

unfoldable pub levels : Drawing → ℕ → List ℕ
unfolding tab greatest
levels g zero = []
levels g (suc k) =
    let m = levels g k in
    tab g.events (λ v. greatest (arrows g) (λ a. cond (eqb (head g a) v) (suc (get_or m (tail g a) 0)) 0))

abbrev pub climb? : (g : Drawing) (m : List ℕ) → Dec ((a : ℕ) → a < arrows g → get_or m (tail g a) 0 < get_or m (head g a) 0)
climb? g m = all? (arrows g) (λ a. get_or m (tail g a) 0 < get_or m (head g a) 0) (λ a. lt? (get_or m (tail g a) 0) (get_or m (head g a) 0))

climbs : (g : Drawing) (m : List ℕ) → ((a : ℕ) → a < arrows g → get_or m (tail g a) 0 < get_or m (head g a) 0) → (u : ℕ) (l : List ℕ) (v : ℕ) → Runs g u l v → get_or m u 0 + length l ≤ get_or m v 0
climbs g m c u [] v h = omega (arith, ap (λ (x : ℕ). get_or m x 0) h)
climbs g m c u (a ∷ l) v h = omega (arith, c a h.0, ap (λ (x : ℕ). get_or m x 0) h.1, climbs g m c (head g a) l v h.2)

pub climb_law : (g : Drawing) (m : List ℕ) → T (is_yes (climb? g m)) → (l : List ℕ) → ¬ Circle g l
climb_law g m t l c = go l c.round
  where
    go : (l : List ℕ) → Round g l → ⊥
    go [] r = r
    go (a ∷ l) r = omega (arith, climbs g m (is_yes_lem (climb? g m) t) (tail g a) (a ∷ l) (tail g a) r)
