-- The first large corner of an event: what the table of corners holds, corner by corner, and that with a labelling its lines are those of the sources and sinks. Assumes nothing.
use mathlib.Core.Path.{◌≡◌, refl, sym, ap, ap₂, subst, ◌∙◌}
use mathlib.Core.Logic.{◌≢◌, ◌⊎◌, inl, inr}
use mathlib.Core.Bool.{Bool, true, false, cond, ◌&&◌}
use mathlib.Core.List.{List, [], ◌∷◌, ◌++◌, append-nil}
use Prim.Native.Nat.{ℕ, zero, suc, ◌+◌, ◌*◌, ◌≤◌, ◌<◌}
use native.Mathlib.Nat.{one-mul, zero-mul}
use native.Mathlib.Numerals.{add-one}
use native.Mathlib.Decide.{ℕ_discrete}
use native.Mathlib.Omega.{arith}
use borrow.Author.Tests.{lt-ltb, le-ltb, eq-eqb, ne_eqb}
use lib.Dec.{T, eqb, ltb}
use lib.ListN.{length, get_or, set, replicate, length-set, length-replicate, get_or-replicate}
use lib.Seq.{get_or-set_same, get_or-set_other}
use Rattle.finite.specs.Sums.{bit, δ, class, below}
use Rattle.finite.proofs.Sum.{sum_cong, below_length}
use Rattle.drawing.specs.Drawing.{Drawing, darts, event, pole}
use Rattle.drawing.specs.Conditions.{label, larges, Labelling}
use Rattle.rules.specs.Listing.{large_corner}
use Rattle.words.specs.Tables.{nth}
use Rattle.lines.specs.Text.{pair}
use Rattle.lines.specs.Follow.{placed, pairs, large_at, Noted, Table, corners}
use Rattle.lines.proofs.Each.{each_cong}

-- the first number below n that passes the test p, or 65535
first : ℕ → (ℕ → Bool) → ℕ
first n p = get_or (below n p) 0 65535

below_more : (n : ℕ) (p : ℕ → Bool) → below (n + 1) p ≡ below n p ++ cond (p n) (n ∷ []) []
unfolding below
below_more n p = ap (λ (k : ℕ). below k p) (add-one n)

-- ---- one more number

module _ (n : ℕ) (p : ℕ → Bool) where
  below_skip : p n ≡ false → below (n + 1) p ≡ below n p
  below_skip e = below_more n p ∙ ap (λ (b : Bool). below n p ++ cond b (n ∷ []) []) e ∙ append-nil (below n p)

  below-take : p n ≡ true → below (n + 1) p ≡ below n p ++ (n ∷ [])
  below-take e = below_more n p ∙ ap (λ (b : Bool). below n p ++ cond b (n ∷ []) []) e

-- a list's first entry stays
first_stays : (m k : List ℕ) → get_or m 0 65535 < 65535 → get_or (m ++ k) 0 65535 ≡ get_or m 0 65535
first_stays [] k l = absurd (omega arith)
first_stays (x ∷ m) k l = refl

-- nothing was found, or it is below n
first_found : (n : ℕ) (p : ℕ → Bool) → (below n p ≡ []) ⊎ (first n p < n)
unfolding below first
first_found zero p = inl refl
first_found (suc n) p = go (below n p) (p n) (first_found n p)
  where
    go : (m : List ℕ) (b : Bool) → (m ≡ []) ⊎ (get_or m 0 65535 < n) → (m ++ cond b (n ∷ []) [] ≡ []) ⊎ (get_or (m ++ cond b (n ∷ []) []) 0 65535 < suc n)
    go [] true h = inr (omega arith)
    go [] false h = inl refl
    go (x ∷ m) b (inl e) = let z : ◌≡◌ {A = ℕ} 0 1 = cc in absurd (omega arith)
    go (x ∷ m) b (inr l) = inr (omega arith)

first_none : (n : ℕ) (p : ℕ → Bool) → n ≤ 65535 → 65535 ≤ first n p → below n p ≡ []
first_none n p few l = go (first_found n p)
  where
    go : (below n p ≡ []) ⊎ (first n p < n) → below n p ≡ []
    go (inl e) = e
    go (inr k) = absurd (omega arith)

-- ---- the table

pub note_start : (g : Drawing) (l : List ℕ) (n : ℕ) → n ≡ g.events → Noted g l 0 (replicate n 65535)
unfolding below
note_start g l n e = record { size = length-replicate n 65535 ∙ e; each = λ v k. get_or-replicate n v 65535 0 (omega arith) }

and_false : (a b : Bool) → b ≡ false → (a && b) ≡ false
and_false true b e = e
and_false false b e = refl

module _ (g : Drawing) (l : List ℕ) (c : ℕ) (t : List ℕ) (N : Noted g l c t) where
  skip : (v : ℕ) → v < g.events → large_at g l v c ≡ false → nth t v ≡ first (c + 1) (large_at g l v)
  unfolding first
  skip v k e = N.each v k ∙ ap (λ (m : List ℕ). get_or m 0 65535) (sym (below_skip c (large_at g l v) e))

  elsewhere : (v : ℕ) → event g c ≢ v → large_at g l v c ≡ false
  elsewhere v d = ap (λ (b : Bool). b && eqb (label l c) 2) (ne_eqb (event g c) v d)

  -- the corner is not large
  pub note_small : label l c ≢ 2 → Noted g l (c + 1) t
  unfolding first
  note_small d = record { size = N.size; each = λ v k. skip v k (and_false (eqb (event g c) v) (eqb (label l c) 2) (ne_eqb (label l c) 2 d)) }

  module _ (e : ℕ) (at : e ≡ event g c) (known : e < g.events) where
    -- its event has a large corner already
    pub note_kept : nth t e < 65535 → Noted g l (c + 1) t
    unfolding first
    note_kept h = record {
      size = N.size;
      each = λ v k. elim (ℕ_discrete (event g c) v) [
        | yes q ↦
            let same : nth t v ≡ nth t e = ap (nth t) (sym (at ∙ q)) in
            let low : get_or (below c (large_at g l v)) 0 65535 < 65535 = omega (arith, N.each v k) in
            N.each v k ∙ sym (ap (λ (m : List ℕ). get_or m 0 65535) (below_more c (large_at g l v)) ∙ first_stays (below c (large_at g l v)) _ low)
        | no d ↦ skip v k (elsewhere v d)
      ];
    }

    -- it is the first
    pub note_new : c ≤ 6144 → label l c ≡ 2 → 65535 ≤ nth t e → Noted g l (c + 1) (set t e c)
    unfolding first
    note_new few large none = record {
      size = length-set t e c ∙ N.size;
      each = λ v k. elim (ℕ_discrete (event g c) v) [
        | yes q ↦
            let p = large_at g l v in
            let same : nth t v ≡ nth t e = ap (nth t) (sym (at ∙ q)) in
            let empty : below c p ≡ [] = first_none c p (omega arith) (omega (arith, N.each v k)) in
            let is : p c ≡ true = ap₂ ◌&&◌ (eq-eqb (event g c) v q) (eq-eqb (label l c) 2 large) in
            ap (nth (set t e c)) (sym (at ∙ q)) ∙ get_or-set_same t e c 0 (omega (arith, N.size))
            ∙ sym (ap (λ (m : List ℕ). get_or m 0 65535) (below-take c p is ∙ ap (λ (m : List ℕ). m ++ (c ∷ [])) empty))
        | no d ↦ get_or-set_other t e v c 0 (λ r. d (sym at ∙ sym r)) ∙ skip v k (elsewhere v d)
      ];
    }

-- the whole table
pub noted_table : (g : Drawing) (l : List ℕ) (n : ℕ) (t : List ℕ) → Noted g l n t → n ≤ 6144 → g.events ≤ 1024 → Table t
unfolding first
noted_table g l n t N few some = record { size = omega (arith, N.size); low = λ v k h. go v (omega (arith, N.size)) h (first_found n (large_at g l v)) }
  where
    go : (v : ℕ) → v < g.events → nth t v < 65535 → (below n (large_at g l v) ≡ []) ⊎ (first n (large_at g l v) < n) → nth t v < 6144
    go v k h (inl e) = absurd (omega (arith, N.each v k, ap (λ (m : List ℕ). get_or m 0 65535) e))
    go v k h (inr q) = omega (arith, N.each v k)

-- ---- with a labelling

bit_and : (a b : Bool) → bit (a && b) ≡ bit a * bit b
bit_and true b = sym (one-mul (bit b))
bit_and false b = sym (zero-mul (bit b))

module _ (g : Drawing) (l : List ℕ) (L : Labelling g l) (few : darts g ≤ 6144) where
  -- an event has one large corner if it is a source or sink, else none
  large-count : (v : ℕ) → v < g.events → length (below (darts g) (large_at g l v)) ≡ bit (pole g v)
  unfolding larges class δ
  large-count v k =
      below_length (darts g) (large_at g l v)
      ∙ sum_cong (darts g) (λ c. bit (large_at g l v c)) (λ c. bit (eqb (event g c) v) * bit (eqb (label l c) 2)) (λ c h. bit_and (eqb (event g c) v) (eqb (label l c) 2))
      ∙ L.events v k

  -- so the table has a corner for exactly those, and it is the large one
  found : (v : ℕ) → v < g.events
      → (ltb (first (darts g) (large_at g l v)) 65535 ≡ pole g v) × (T (pole g v) → first (darts g) (large_at g l v) ≡ large_corner g l v)
  unfolding first large_corner
  found v k = go (below (darts g) (large_at g l v)) (pole g v) (large-count v k) (first_found (darts g) (large_at g l v))
    where
      go : (m : List ℕ) (b : Bool) → length m ≡ bit b → (m ≡ []) ⊎ (get_or m 0 65535 < darts g) → (ltb (get_or m 0 65535) 65535 ≡ b) × (T b → get_or m 0 65535 ≡ get_or m 0 0)
      go [] true e h = absurd (omega arith)
      go [] false e h = (le-ltb 65535 65535 (omega arith), λ f. absurd f)
      go (x ∷ m) false e h = absurd (omega arith)
      go (x ∷ m) true e (inl q) = let z : ◌≡◌ {A = ℕ} 0 1 = cc in absurd (omega arith)
      go (x ∷ m) true e (inr q) = (lt-ltb x 65535 (omega arith), λ f. refl)

  all-corners : (t : List ℕ) → Noted g l (darts g) t → pairs t (length t) ≡ corners g l
  unfolding first
  all-corners t N =
      ap (pairs t) N.size
      ∙ each_cong (λ v. pair v (nth t v)) (λ v. pair v (large_corner g l v)) g.events (placed t) (pole g)
      (λ v k. (ap (λ (x : ℕ). ltb x 65535) (N.each v k) ∙ (found v k).0, λ h. ap (pair v) (N.each v k ∙ (found v k).1 h)))

pub table_corners : {g : Drawing} {l t : List ℕ} {n : ℕ} → Labelling g l → n ≡ darts g → n ≤ 6144 → Noted g l n t → pairs t (length t) ≡ corners g l
table_corners {g} {l} {t} L e few N = all-corners g l L (omega arith) t (subst (λ (k : ℕ). Noted g l k t) e N)
