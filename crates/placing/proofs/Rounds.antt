-- Going round an event, and round a face: what is listed on the way. Assumes nothing.
--   to_go n p first c  the steps of a walk of p that are left from c, until it is back at first
--   Round              a walk round an event, from its corner first, has come to c
--   Circuit            a walk of p from first, where S holds, has come to c; what was listed since has P, and for each number met Q holds of the table
--   Touching           round an event: the face of each corner met is listed
--   Scanning           round a face: where a corner met is its event's place, the faces that the event touches are listed
use mathlib.Core.Path.{◌≡◌, refl, sym, ap, ◌∙◌, subst}
use mathlib.Core.Logic.{◌≢◌}
use mathlib.Core.List.{List}
use Prim.Native.Nat.{ℕ, suc, ◌+◌, ◌≤◌, ◌<◌}
use native.Mathlib.Decide.{ℕ_discrete}
use native.Mathlib.Omega.{arith}
use lib.ListN.{length}
use Rattle.finite.specs.Steps.{iter, Into, Inj, Reach}
use Rattle.finite.proofs.Walk.{Walk, walk_start, walk_step, walk-all}
use Rattle.finite.proofs.Ahead.{ahead, orbit_nearer}
use Rattle.drawing.specs.Drawing.{Drawing, darts, event, after}
use Rattle.drawing.specs.Conditions.{Rings}
use Rattle.drawing.proofs.Rounds.{after_inj, after_reach}
use Rattle.words.specs.Tables.{nth}
use Rattle.placing.specs.Board.{Board, turn}
use Rattle.placing.specs.Search.{Seen, Held, Grown, Full, Added, Touched, PlacedAt, Visited, PlacedIn, Scanned, Reached}
use Rattle.placing.proofs.Boards.{turn_into, turn_stays, turn_meets}
use Rattle.placing.proofs.Listing.{grown_none, grown_more, grown_as, seen_kept}

-- the steps from c on, until it is back at first
abbrev pub to_go : ℕ → (ℕ → ℕ) → ℕ → ℕ → ℕ
to_go n p first c = ahead n p first (p c)

-- ---- a walk round an event

pub record Round (g : Drawing) (first c : ℕ) : Type 0 where
  pub start : first < darts g
  pub reached : Reach (after g) first c
  pub inside : c < darts g
  pub own : event g c ≡ event g first

pub round_start : {g : Drawing} {first : ℕ} → first < darts g → Round g first first
unfolding iter
round_start l = record { start = l; reached = (0, refl); inside = l; own = refl }

-- its next step, to e
module _ {g : Drawing} (R : Rings g) {first c e : ℕ} (W : Round g first c) (is_e : e ≡ after g c) where
  pub round_step : Round g first e
  unfolding iter
  round_step = record {
    start = W.start;
    reached = (suc W.reached.0, ap (after g) W.reached.1 ∙ sym is_e);
    inside = rw is_e (R.inside c W.inside);
    own = rw is_e (R.stays c W.inside ∙ W.own);
  }

  pub round_nearer : e ≢ first → to_go (darts g) (after g) first e < to_go (darts g) (after g) first c
  round_nearer q = rw is_e (orbit_nearer (darts g) (after g) first c (after_inj g R) R.inside W.start W.reached (λ r. q (is_e ∙ r)))

-- ---- a walk that comes back, with more listed at each step

pub record Circuit (n : ℕ) (p : ℕ → ℕ) (here : List ℕ) (S P : ℕ → Type 0) (Q : List ℕ → ℕ → Type 0) (first : ℕ) (rank via : List ℕ) (t : ℕ) (rank' via' : List ℕ) (t' c : ℕ) : Type 0 where
  pub start : first < n
  pub steps : ℕ
  pub walk : Walk p first steps c
  pub inside : c < n
  pub stays : S c
  pub grown : Grown here P rank via t rank' via' t'
  pub seen : (j : ℕ) → j < steps → Q rank' (iter p j first)

circuit_start : {n : ℕ} {p : ℕ → ℕ} {here : List ℕ} {S P : ℕ → Type 0} {Q : List ℕ → ℕ → Type 0} {first : ℕ} {rank via : List ℕ} {t : ℕ} → first < n → S first → Held here rank via t
    → Circuit n p here S P Q first rank via t rank via t first
circuit_start {p = p} {first = first} l s H = record {
  start = l;
  steps = 0;
  walk = walk_start p first;
  inside = l;
  stays = s;
  grown = grown_none _ H;
  seen = λ j a. absurd (omega arith);
}

module _ {n : ℕ} {p : ℕ → ℕ} {here : List ℕ} {S P : ℕ → Type 0} {Q : List ℕ → ℕ → Type 0} {first : ℕ} {rank via : List ℕ} {t : ℕ} {rank₁ via₁ : List ℕ} {t₁ c : ℕ}
    (T : Circuit n p here S P Q first rank via t rank₁ via₁ t₁ c) where
  -- a step that does not end it brings its end nearer
  pub circuit_nearer : Inj n p → Into n n p → {e : ℕ} → e ≡ p c → e ≢ first → to_go n p first e < to_go n p first c
  circuit_nearer inj into e q = rw e (orbit_nearer n p first c inj into T.start (T.steps, sym T.walk.here) (λ r. q (e ∙ r)))

  module _ {P' : ℕ → Type 0} {rank₂ via₂ : List ℕ} {t₂ : ℕ} (G : Grown here P' rank₁ via₁ t₁ rank₂ via₂ t₂)
      (sub : (d : ℕ) → d < length here → P' d → P d) (kept : (x : ℕ) → Q rank₁ x → Q rank₂ x) (new : Q rank₂ c) where
    circuit_grown : Grown here P rank via t rank₂ via₂ t₂
    circuit_grown = grown_more T.grown G sub

    circuit_seen : (j : ℕ) → j < T.steps + 1 → Q rank₂ (iter p j first)
    circuit_seen j a = elim (ℕ_discrete j T.steps) [
      | yes e ↦ subst (Q rank₂) (T.walk.here ∙ ap (λ (x : ℕ). iter p x first) (sym e)) new
      | no e ↦ kept (iter p j first) (T.seen j (omega arith))
    ]

    circuit_step : Into n n p → S (p c) → p c ≢ first → Circuit n p here S P Q first rank via t rank₂ via₂ t₂ (p c)
    circuit_step into s q = record {
      start = T.start;
      steps = T.steps + 1;
      walk = walk_step p first T.steps c T.walk q;
      inside = into c T.inside;
      stays = s;
      grown = circuit_grown;
      seen = circuit_seen;
    }

  -- a face with room ends it
  circuit_stop : {P₀ P' : ℕ → Type 0} {s rank₂ via₂ : List ℕ} {t₂ at : ℕ} → Reached here s P' rank₁ via₁ t₁ rank₂ via₂ t₂ at → ((d : ℕ) → d < length here → P d → P₀ d) → ((d : ℕ) → d < length here → P' d → P₀ d)
      → Reached here s P₀ rank via t rank₂ via₂ t₂ at
  circuit_stop R weak sub = record { grown = grown_more (grown_as T.grown weak) R.grown sub; last = R.last; room = R.room }

-- ---- round an event

abbrev pub Touching : Drawing → List ℕ → List ℕ → ℕ → List ℕ → List ℕ → ℕ → List ℕ → List ℕ → ℕ → ℕ → Type 0
Touching g here s first =
    Circuit (darts g) (after g) here (λ c. event g c ≡ event g first) (λ d. (event g d ≡ event g first) × Full here s d) (λ rank x. Seen rank (nth here x)) first

pub touch_start : {g : Drawing} {here : List ℕ} (s : List ℕ) {first : ℕ} {rank via : List ℕ} {t : ℕ} → Board g here → first < darts g → Held here rank via t
    → Touching g here s first rank via t rank via t first
touch_start s B l H = circuit_start l refl H

module _ {g : Drawing} {here : List ℕ} (s : List ℕ) (B : Board g here) {first : ℕ} {rank via : List ℕ} {t : ℕ} {rank₁ via₁ : List ℕ} {t₁ c : ℕ}
    (T : Touching g here s first rank via t rank₁ via₁ t₁ c) where
  module _ {rank₂ via₂ : List ℕ} {t₂ : ℕ} (L : Added here s c rank₁ via₁ t₁ rank₂ via₂ t₂) where
    same : (d : ℕ) → d < length here → (d ≡ c) × Full here s d → (event g d ≡ event g first) × Full here s d
    same d l q = (ap (event g) q.0 ∙ T.stays, q.1)

    still : (x : ℕ) → Seen rank₁ (nth here x) → Seen rank₂ (nth here x)
    still x s = seen_kept L.grown _ s

    pub touch_step : after g c ≢ first → Touching g here s first rank via t rank₂ via₂ t₂ (after g c)
    touch_step q = circuit_step T L.grown same still L.seen B.rings.inside (B.rings.stays c T.inside ∙ T.stays) q

    pub touch_done : after g c ≡ first → Touched g here s (event g first) rank via t rank₂ via₂ t₂
    touch_done q = record {
      grown = circuit_grown T L.grown same still L.seen;
      seen = λ d l e.
          let m = walk-all (after g) first T.steps c T.walk q d (after_reach g B.rings first d T.start l (sym e)) in
          let b : m.0 ≤ T.steps = m.1 in
          subst (λ (x : ℕ). Seen rank₂ (nth here x)) m.2 (circuit_seen T L.grown same still L.seen m.0 (omega arith));
    }

  pub touch_stop : {rank₂ via₂ : List ℕ} {t₂ at : ℕ} → Reached here s (λ d. d ≡ c) rank₁ via₁ t₁ rank₂ via₂ t₂ at → Reached here s (λ d. event g d ≡ event g first) rank via t rank₂ via₂ t₂ at
  touch_stop R = circuit_stop T R (λ d a q. q.0) (λ d a q. ap (event g) q ∙ T.stays)

-- ---- round a face

-- where x is the place of its event, every face that the event touches is listed
abbrev Shown : Drawing → List ℕ → List ℕ → List ℕ → ℕ → Type 0
Shown g here L rank x = nth L (event g x) ≡ x → (d : ℕ) → d < darts g → event g d ≡ event g x → Seen rank (nth here d)

abbrev pub Scanning : Drawing → List ℕ → List ℕ → List ℕ → ℕ → List ℕ → List ℕ → ℕ → List ℕ → List ℕ → ℕ → ℕ → Type 0
Scanning g here L s first =
    Circuit (darts g) (turn g) here (λ c. nth here c ≡ nth here first) (λ d. PlacedIn g here L (nth here first) d × Full here s d) (Shown g here L) first

pub scan_start : {g : Drawing} {here : List ℕ} (L s : List ℕ) {first : ℕ} {rank via : List ℕ} {t : ℕ} → Board g here → first < darts g → Held here rank via t
    → Scanning g here L s first rank via t rank via t first
scan_start L s B l H = circuit_start l refl H

module _ {g : Drawing} {here : List ℕ} (L s : List ℕ) (B : Board g here) {first : ℕ} {rank via : List ℕ} {t : ℕ} {rank₁ via₁ : List ℕ} {t₁ c : ℕ}
    (T : Scanning g here L s first rank via t rank₁ via₁ t₁ c) where
  placed : (d : ℕ) → d < length here → PlacedAt g L c d → PlacedIn g here L (nth here first) d
  placed d a q = let e : nth L (event g d) ≡ c = ap (nth L) q.0 ∙ q.1 in rw e (T.inside, T.stays)

  module _ {rank₂ via₂ : List ℕ} {t₂ : ℕ} (W : Visited g here L s c rank₁ via₁ t₁ rank₂ via₂ t₂) where
    placed_full : (d : ℕ) → d < length here → PlacedAt g L c d × Full here s d → PlacedIn g here L (nth here first) d × Full here s d
    placed_full d a q = (placed d a q.0, q.1)

    shown : (x : ℕ) → Shown g here L rank₁ x → Shown g here L rank₂ x
    shown x s q d b m = seen_kept W.grown _ (s q d b m)

    pub scan_step : turn g c ≢ first → Scanning g here L s first rank via t rank₂ via₂ t₂ (turn g c)
    scan_step q = circuit_step T W.grown placed_full shown W.seen (turn_into B) (turn_stays B c T.inside ∙ T.stays) q

    pub scan_done : turn g c ≡ first → Scanned g here L s first rank via t rank₂ via₂ t₂
    scan_done q = record {
      grown = circuit_grown T W.grown placed_full shown W.seen;
      seen = λ d b own p.
          let r = turn_meets B first (nth L (event g d)) T.start p.0 (sym p.1) in
          let m = walk-all (turn g) first T.steps c T.walk q (nth L (event g d)) r in
          let h : m.0 ≤ T.steps = m.1 in
          circuit_seen T W.grown placed_full shown W.seen m.0 (omega arith) (rw m.2 (ap (nth L) own)) d b (rw m.2 (sym own));
    }

  pub scan_stop : {rank₂ via₂ : List ℕ} {t₂ at : ℕ} → Reached here s (PlacedAt g L c) rank₁ via₁ t₁ rank₂ via₂ t₂ at → Reached here s (PlacedIn g here L (nth here first)) rank via t rank₂ via₂ t₂ at
  scan_stop R = circuit_stop T R (λ d a q. q.0) placed
