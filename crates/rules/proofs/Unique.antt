-- What the definitions determine: the number given, the verdict, and, but for a labelling, a circle and a cut, the report. Assumes nothing.
use mathlib.Core.Path.{◌≡◌, sym, ap, ap₂, subst, ◌∙◌}
use mathlib.Core.Logic.{inl, inr}
use mathlib.Core.Bool.{Bool, true, false, cond, not, ◌||◌}
use mathlib.Core.List.{List, [], ◌∷◌, ◌++◌}
use Prim.Native.Nat.{ℕ}
use native.Mathlib.Omega.{arith}
use lib.Dec.{T, T_not, eqb}
use lib.ListN.{length, drop}
use Rattle.finite.proofs.Extra.{or_left, or_right}
use Rattle.drawing.specs.Drawing.{Drawing}
use Rattle.drawing.specs.Conditions.{Labelling}
use Rattle.rules.specs.Words.{bytes}
use Rattle.rules.specs.Chart.{drawing}
use Rattle.rules.specs.Tests.{Test, Given, tests, faults}
use Rattle.rules.specs.Report.{Entries, Outcome, report, result_in}
use Rattle.rules.specs.Judge.{Verdict, chart, J, fits, Either, Deserves, Judged}

pub given_unique : (ts : List Test) (s : List ℕ) (r n m : ℕ) → Given ts s r n → Given ts s r m → n ≡ m
given_unique [] s r n m p q = p ∙ sym q
given_unique (t ∷ ts) s r n m (inl p) (inl q) = p.1 ∙ sym q.1
given_unique (t ∷ ts) s r n m (inl p) (inr q) = absurd (p.0 q.0)
given_unique (t ∷ ts) s r n m (inr p) (inl q) = absurd (q.0 p.0)
given_unique (t ∷ ts) s r n m (inr p) (inr q) = given_unique ts s r n m p.1 q.1

-- two facts by the same test, compared on each side of it
by_test : {P P' Q Q' C : Type 0} (b : Bool) → (T b → P → P' → C) → (Q → Q' → C) → cond b P Q → cond b P' Q' → C
by_test true f g p q = f tt p q
by_test false f g p q = g p q

either_unique : {P : Type 0} {a b j k : ℕ} → Either P a b j → Either P a b k → j ≡ k
either_unique (inl p) (inl q) = p.1 ∙ sym q.1
either_unique (inl p) (inr q) = absurd (q.0 p.0)
either_unique (inr p) (inl q) = absurd (p.0 q.0)
either_unique (inr p) (inr q) = p.1 ∙ sym q.1

pub deserves_unique : (g : Drawing) (r : List ℕ) (j k : ℕ) → Deserves g r j → Deserves g r k → j ≡ k
deserves_unique g r j k = by_test (fits g r) (λ _. by_test (eqb (result_in r) 0) (λ _. either_unique) either_unique) (λ p q. p ∙ sym q)

pub judged_unique : (s r : List ℕ) (v u : Verdict) → Judged s r v → Judged s r u → v ≡ u
judged_unique s r v u (inl p) (inl q) = p.3 ∙ ap chart (given_unique faults s 0 p.0 q.0 p.2 q.2) ∙ sym q.3
judged_unique s r v u (inl p) (inr q) = absurd (p.1 (given_unique faults s 0 p.0 0 p.2 q.1))
judged_unique s r v u (inr p) (inl q) = absurd (q.1 (given_unique faults s 0 q.0 0 q.2 p.1))
judged_unique s r v u (inr p) (inr q) = p.3 ∙ ap J (deserves_unique (drawing s) r p.0 q.0 p.2 q.2) ∙ sym q.3

-- ---- the report

-- a labelling, a circle or a cut is written: the three exceptions
abbrev pub free : ℕ → Bool
free n = eqb n 0 || eqb n 13 || eqb n 14

pub entries_unique : (g : Drawing) (n : ℕ) (l m : List ℕ) → T (not (free n)) → Entries g n l → Entries g n m → l ≡ m
entries_unique g n l m t =
    let a = eqb n 0 in
    let b = eqb n 13 in
    let c = eqb n 14 in
    let not-Free = T_not (free n) t in
    by_test a (λ h p q. absurd (not-Free (or_left (a || b) c (or_left a b h))))
    (by_test (eqb n 12) (λ h p q. p ∙ sym q)
    (by_test b (λ h p q. absurd (not-Free (or_left (a || b) c (or_right a b h))))
    (by_test c (λ h p q. absurd (not-Free (or_right (a || b) c h)))
    (λ p q. p ∙ sym q))))

-- the number is one; and the entries fix the bytes written and the report's final bytes, whatever they are
pub outcome_entries : (s r : List ℕ) (n w m v : ℕ) (r' r'' : List ℕ) (o : Outcome s r n w r') (q : Outcome s r m v r'') → o.entries ≡ q.entries
    → (n ≡ m) × (w ≡ v) × (r' ≡ r'')
outcome_entries s r n w m v r' r'' o q l =
    let e : n ≡ m = given_unique tests s (length r) n m o.given q.given in
    let same : report n o.entries ≡ report m q.entries = cc in
    let long : w ≡ v = o.written ∙ ap length same ∙ sym q.written in
    (e, long, o.left ∙ ap₂ (λ (x : List ℕ) (k : ℕ). x ++ drop k r) same long ∙ sym q.left)

-- the number is one, and unless a labelling, a circle or a cut is written, so are the bytes written and the report's final bytes
pub outcome_unique : (s r : List ℕ) (n w m v : ℕ) (r' r'' : List ℕ) → Outcome s r n w r' → Outcome s r m v r'' → (n ≡ m) × (T (not (free n)) → (w ≡ v) × (r' ≡ r''))
outcome_unique s r n w m v r' r'' o q =
    let e : n ≡ m = given_unique tests s (length r) n m o.given q.given in (
      e,
      λ t.
          let qa : Entries (drawing s) n q.entries = subst (λ (k : ℕ). Entries (drawing s) k q.entries) (sym e) q.allowed in
          let l : o.entries ≡ q.entries = entries_unique (drawing s) n o.entries q.entries t o.allowed qa in
          let h = outcome_entries s r n w m v r' r'' o q l in
          (h.1, h.2),
    )

-- a labelling has a label for each corner, so the bytes written are one for result 0 too
pub labelled_length : (s r : List ℕ) (w v : ℕ) (r' r'' : List ℕ) → Outcome s r 0 w r' → Outcome s r 0 v r'' → w ≡ v
unfolding report bytes
labelled_length s r w v r' r'' o q =
    let a : Labelling (drawing s) o.entries = o.allowed in
    let b : Labelling (drawing s) q.entries = q.allowed in
    omega (arith, o.written, q.written, a.size, b.size)
