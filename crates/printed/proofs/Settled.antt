-- What a listing determines: how many bytes it takes at most, and, but for a labelling, a circle and a cut, all of it. Assumes nothing.
--   listed_told, listed_fits         where a size is answered, the text has it; and it lies within the bytes that are lent
--   short_unique, told_unique        one answer with too little room; one number with room, and but for the exceptions one text
--   listed_unique                    both
use mathlib.Core.Path.{◌≡◌, sym, ap, ap₂, subst, ◌∙◌}
use mathlib.Core.Bool.{not}
use mathlib.Core.List.{List, ◌++◌}
use Prim.Native.Nat.{ℕ, ◌≤◌, ◌<◌}
use native.Mathlib.Omega.{arith}
use Rattle.std.specs.Prelude.{Option, Some, None}
use lib.Dec.{T}
use lib.ListN.{length, drop, length-append}
use Rattle.finite.proofs.Decide.{le?}
use Rattle.rules.specs.Chart.{drawing}
use Rattle.rules.specs.Tests.{tests}
use Rattle.rules.specs.Report.{Entries}
use Rattle.rules.specs.Listing.{listing}
use Rattle.rules.proofs.Unique.{free, given_unique, entries_unique}
use Rattle.lines.specs.Printed.{listing_room}
use Rattle.printed.specs.Listed.{full_room, Told, Listed}

some_same : {j k : ℕ} → Some k ≡ Some j → j ≡ k
some_same e = cc

some_none : {k : ℕ} → Some k ≡ None → ⊥
some_none e = cc

told_fits : (s o o' : List ℕ) (k : ℕ) → Told s o o' k → k ≤ length o'
told_fits s o o' k t = omega (arith, t.size, simp length-append at (ap length t.text))

-- the text that a size is answered for
pub listed_told : (s o o' : List ℕ) (k : ℕ) → Listed s o o' (Some k) → Told s o o' k
listed_told s o o' k l =
    elim (le? listing_room (length o)) [
      | yes h ↦ subst (Told s o o') (some_same (l.full h).1) (l.full h).2
      | no h ↦ absurd (some_none (l.short (omega arith)).0)
    ]

-- the text lies within the bytes that are lent
pub listed_fits : (s o o' : List ℕ) (k : ℕ) → Listed s o o' (Some k) → k ≤ length o'
listed_fits s o o' k l = told_fits s o o' k (listed_told s o o' k l)

-- with too little room there is one answer
pub short_unique : (s o a b : List ℕ) (j k : Option ℕ) → length o < listing_room → Listed s o a j → Listed s o b k → (j ≡ k) × (a ≡ b)
short_unique s o a b j k h p q = ((p.short h).0 ∙ sym (q.short h).0, (p.short h).1 ∙ sym (q.short h).1)

-- with room the number is one; and unless a labelling, a circle or a cut is listed, so are the text and its length
pub told_unique : (s o a b : List ℕ) (j k : ℕ) (p : Told s o a j) (q : Told s o b k) → (p.number ≡ q.number) × (T (not (free p.number)) → (j ≡ k) × (a ≡ b))
told_unique s o a b j k p q =
    let e : p.number ≡ q.number = given_unique tests s (length full_room) p.number q.number p.outcome.given q.outcome.given in (
      e,
      λ t.
          let m = q.outcome.entries in
          let allowed : Entries (drawing s) p.number m = subst (λ (n : ℕ). Entries (drawing s) n m) (sym e) q.outcome.allowed in
          let l : p.outcome.entries ≡ m = entries_unique (drawing s) p.number p.outcome.entries m t p.outcome.allowed allowed in
          let same : listing (drawing s) p.number p.outcome.entries ≡ listing (drawing s) q.number m = ap₂ (listing (drawing s)) e l in
          let long : j ≡ k = p.size ∙ ap length same ∙ sym q.size in
          (long, p.text ∙ ap₂ (λ (x : List ℕ) (i : ℕ). x ++ drop i o) same long ∙ sym q.text),
    )

pub listed_unique : (s o a b : List ℕ) (j k : Option ℕ) (p : Listed s o a j) (q : Listed s o b k)
    → (length o < listing_room → (j ≡ k) × (a ≡ b))
    × ((h : listing_room ≤ length o) → ((p.full h).2.number ≡ (q.full h).2.number) × (T (not (free (p.full h).2.number)) → (j ≡ k) × (a ≡ b)))
listed_unique s o a b j k p q = (
  λ h. short_unique s o a b j k h p q,
  λ h.
      let u = told_unique s o a b (p.full h).0 (q.full h).0 (p.full h).2 (q.full h).2 in
      (u.0, λ t. ((p.full h).1 ∙ ap Some (u.1 t).0 ∙ sym (q.full h).1, (u.1 t).1)),
)
