-- The list of faces: it grows by one face, and holds none twice; it is taken back. Assumes nothing.
use mathlib.Core.Path.{◌≡◌, refl, sym, ap, ◌∙◌, subst}
use mathlib.Core.Logic.{◌≢◌}
use mathlib.Core.List.{List}
use Prim.Native.Nat.{ℕ, ◌+◌, ◌-◌, ◌≤◌, ◌<◌}
use native.Mathlib.Decide.{ℕ_discrete, dec_lt}
use native.Mathlib.Omega.{arith}
use lib.ListN.{length, take, set, length-set}
use lib.Seq.{get_or-set_same, get_or-set_other, get_or-take, length-take-le}
use Rattle.finite.specs.Steps.{Into, Inj}
use Rattle.finite.proofs.Perm.{inj_le, onto}
use Rattle.words.specs.Tables.{nth}
use Rattle.placing.specs.Search.{Seen, Blank, Held, Lists, Grown, Listed, Added, Reached}

-- ---- growing

pub grown_none : {here rank via : List ℕ} {t : ℕ} (P : ℕ → Type 0) → Held here rank via t → Grown here P rank via t rank via t
grown_none P H = record { held = H; size = refl; longer = omega arith; kept = λ f s. refl; same = λ i l. refl; new = λ i a b. absurd (omega arith) }

pub seen_kept : {here : List ℕ} {P : ℕ → Type 0} {rank via : List ℕ} {t : ℕ} {rank' via' : List ℕ} {t' : ℕ}
    → Grown here P rank via t rank' via' t' → (f : ℕ) → Seen rank f → Seen rank' f
seen_kept G f s = omega (arith, G.kept f s)

pub grown_more : {here : List ℕ} {P Q : ℕ → Type 0} {rank via : List ℕ} {t : ℕ} {rank' via' : List ℕ} {t' : ℕ} {rank'' via'' : List ℕ} {t'' : ℕ}
    → Grown here P rank via t rank' via' t' → Grown here Q rank' via' t' rank'' via'' t'' → ((d : ℕ) → d < length here → Q d → P d)
    → Grown here P rank via t rank'' via'' t''
grown_more {P = P} {t' = t'} {via'' = via''} G K sub = record {
  held = K.held;
  size = K.size ∙ G.size;
  longer = omega (arith, G.longer, K.longer);
  kept = λ f s. K.kept f (seen_kept G f s) ∙ G.kept f s;
  same = λ i l. K.same i (omega (arith, G.longer)) ∙ G.same i l;
  new = λ i a b. elim (dec_lt i t') [
    | yes q ↦ subst P (sym (K.same i q)) (G.new i a q)
    | no q ↦ sub (nth via'' i) (K.held.entry i b).0 (K.new i (omega arith) b)
  ];
}

pub grown_as : {here : List ℕ} {P Q : ℕ → Type 0} {rank via : List ℕ} {t : ℕ} {rank' via' : List ℕ} {t' : ℕ}
    → Grown here P rank via t rank' via' t' → ((d : ℕ) → d < length here → P d → Q d) → Grown here Q rank via t rank' via' t'
grown_as {via' = via'} G sub = record {
  held = G.held;
  size = G.size;
  longer = G.longer;
  kept = G.kept;
  same = G.same;
  new = λ i a b. sub (nth via' i) (G.held.entry i b).0 (G.new i a b);
}

pub held_none : {here rank via : List ℕ} → ((c : ℕ) → c < length here → nth here c < length rank) → length rank ≤ length here → length via ≡ length rank → Blank rank
    → Held here rank via 0
held_none into r v b = record {
  into = into;
  ranks = r;
  vias = v;
  entry = λ i l. absurd (omega arith);
  found = λ f s. absurd (omega (arith, b f));
}

module _ {here rank via : List ℕ} {t : ℕ} (H : Held here rank via t) where
  -- the faces of the list are different ones
  apart : Inj t (λ i. nth here (nth via i))
  apart i j a b q = omega (arith, (H.entry i a).1, (H.entry j b).1, ap (nth rank) q)

  inside : Into t (length rank) (λ i. nth here (nth via i))
  inside i a = H.into (nth via i) (H.entry i a).0

  pub ends_few : t ≤ length rank
  ends_few = inj_le t (length rank) (λ i. nth here (nth via i)) apart inside

  module _ (c : ℕ) (l : c < length here) where
    module _ (new : nth rank (nth here c) < 1) where
      -- a face that is not listed leaves room in the list
      pub end_in : t < length rank
      end_in =
          let le : t ≤ length rank = ends_few in
          elim (ℕ_discrete t (length rank)) [
            | yes e ↦
                let o = onto (length rank) (λ i. nth here (nth via i)) (λ i j a b. apart i j (omega arith) (omega arith)) (λ i a. inside i (omega arith)) (nth here c) (H.into c l) in
                let k : o.0 < t = omega (arith, o.1) in
                absurd (omega (arith, (H.entry o.0 k).1, ap (nth rank) o.2))
            | no e ↦ omega arith
          ]

      at_f : nth (set rank (nth here c) (t + 1)) (nth here c) ≡ t + 1
      at_f = get_or-set_same rank (nth here c) (t + 1) 0 (H.into c l)

      other : (f : ℕ) → f ≢ nth here c → nth (set rank (nth here c) (t + 1)) f ≡ nth rank f
      other f q = get_or-set_other rank (nth here c) f (t + 1) 0 q

      at_t : nth (set via t c) t ≡ c
      at_t = get_or-set_same via t c 0 (omega (arith, H.vias, end_in))

      before : (i : ℕ) → i < t → nth (set via t c) i ≡ nth via i
      before i a = get_or-set_other via t i c 0 (omega arith)

      seen_other : (f : ℕ) → Seen rank f → f ≢ nth here c
      seen_other f s q = omega (arith, ap (nth rank) q)

      pub listed_more : Listed here c rank via t (set rank (nth here c) (t + 1)) (set via t c) (t + 1)
      listed_more = record {
        grown = record {
          held = record {
            into = λ d m. omega (arith, H.into d m, length-set rank (nth here c) (t + 1));
            ranks = omega (arith, length-set rank (nth here c) (t + 1), H.ranks);
            vias = length-set via t c ∙ H.vias ∙ sym (length-set rank (nth here c) (t + 1));
            entry = λ i a. elim (ℕ_discrete i t) [
              | yes e ↦ rw (e, at_t) (l, at_f)
              | no e ↦
                  let h = H.entry i (omega arith) in
                  rw (before i (omega arith)) (h.0, other (nth here (nth via i)) (seen_other (nth here (nth via i)) (omega (arith, h.1))) ∙ h.1)
            ];
            found = λ f s. elim (ℕ_discrete f (nth here c)) [
              | yes e ↦
                  let r : nth (set rank (nth here c) (t + 1)) f ≡ t + 1 = ap (nth (set rank (nth here c) (t + 1))) e ∙ at_f in
                  let m : nth (set rank (nth here c) (t + 1)) f - 1 ≡ t = omega arith in
                  (omega arith, rw (m, at_t) (sym e))
              | no e ↦
                  let r : nth (set rank (nth here c) (t + 1)) f ≡ nth rank f = other f e in
                  let h = H.found f (omega arith) in
                  let k : nth rank f ≤ t = h.0 in
                  (omega arith, rw (r, before (nth rank f - 1) (omega arith)) h.1)
            ];
          };
          size = length-set rank (nth here c) (t + 1);
          longer = omega arith;
          kept = λ f s. other f (seen_other f s);
          same = before;
          new = λ i a b. let e : i ≡ t = omega arith in ap (nth (set via t c)) e ∙ at_t;
        };
        seen = omega (arith, at_f);
      }

-- the same, for the face f of the corner
module _ {here rank via : List ℕ} {t : ℕ} (H : Held here rank via t) {c : ℕ} (l : c < length here) {f : ℕ} (e : f ≡ nth here c) where
  pub list_in : f < length rank
  list_in = omega (arith, H.into c l)

  pub list_room : nth rank f < 1 → t < length rank
  list_room new = end_in H c l (rw e at new)

  pub list_new : nth rank f < 1 → {rank' via' : List ℕ} → rank' ≡ set rank f (t + 1) → via' ≡ set via t c → Listed here c rank via t rank' via' (t + 1)
  list_new new r v = rw (r, v, e) (listed_more H c l (rw e at new))

-- the same, with the room of the face looked at
module _ {here rank via : List ℕ} (s : List ℕ) {t : ℕ} (H : Held here rank via t) {c : ℕ} (l : c < length here) {f : ℕ} (e : f ≡ nth here c) where
  module _ (new : nth rank f < 1) {rank' via' : List ℕ} (r : rank' ≡ set rank f (t + 1)) (v : via' ≡ set via t c) where
    pub added_full : nth s f < 1 → Added here s c rank via t rank' via' (t + 1)
    added_full z =
        let M : Listed here c rank via t rank' via' (t + 1) = list_new H l e new r v in
        record { grown = grown_as M.grown (λ d a i. (i, omega (arith, ap (nth s) (ap (nth here) i ∙ sym e)))); seen = M.seen }

    pub added_room : 1 ≤ nth s f → Reached here s (λ d. d ≡ c) rank via t rank' via' (t + 1) t
    added_room z =
        let M : Listed here c rank via t rank' via' (t + 1) = list_new H l e new r v in
        record { grown = M.grown; last = refl; room = omega (arith, z, ap (nth s) (e ∙ ap (nth here) (sym (M.grown.new t (omega arith) (omega arith))))) }

-- ---- taking back

-- the first t entries of a list
module _ {here rank via : List ℕ} {t : ℕ} (H : Held here rank via t) where
  pub held_in : t ≤ length via
  held_in = omega (arith, ends_few H, H.vias)

  pub held_size : length (take t via) ≡ t
  held_size = length-take-le t via held_in

  pub held_lists : Lists here rank (take t via)
  held_lists = record {
    into = H.into;
    entry = λ i l. rw (get_or-take t via i 0 (omega (arith, held_size))) (H.entry i (omega (arith, held_size))).0;
    found = λ f s.
        let h = H.found f s in
        let few : nth rank f ≤ t = h.0 in
        (nth rank f - 1, omega (arith, held_size), rw (get_or-take t via (nth rank f - 1) 0 (omega arith)) h.1);
  }

-- the first i entries of the list are cleared: a face that is still marked comes later
pub record Clearing (here list rank : List ℕ) (i : ℕ) : Type 0 where
  pub into : (c : ℕ) → c < length here → nth here c < length rank
  pub entry : (j : ℕ) → j < length list → nth list j < length here
  pub left : (f : ℕ) → Seen rank f → (j : ℕ) × (i ≤ j) × (j < length list) × (nth here (nth list j) ≡ f)
