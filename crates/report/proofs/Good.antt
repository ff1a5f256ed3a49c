-- What a report of good form shows. Assumes nothing.
use mathlib.Core.Path.{◌≡◌, refl, sym, ap, ap₂, ◌∙◌}
use mathlib.Core.Bool.{Bool, true, false, cond, ◌&&◌}
use mathlib.Core.List.{List}
use Prim.Native.Nat.{ℕ, ◌+◌, ◌*◌, ◌≤◌}
use native.Mathlib.Omega.{arith}
use borrow.Author.Tests.{le-leb, leb-true, eqb-true, eq-eqb, ne_eqb}
use lib.Dec.{leb, eqb}
use lib.ListN.{length, get_or, length-drop}
use Rattle.rules.specs.Words.{u16, words}
use Rattle.rules.specs.Report.{writes, entry, good, bad, is_well_formed, form, body, entries, result_in, count_in}

-- a report that passes every other test is well formed exactly if it has its length
pub tests_left : (s : List ℕ) → 8 ≤ length s → get_or s 0 0 ≡ 69 → get_or s 1 0 ≡ 86 → get_or s 2 0 ≡ 82 → u16 s 3 ≡ 1 → writes (result_in s) ≡ true
    → is_well_formed s ≡ eqb (length s) (8 + entry (result_in s) * count_in s)
unfolding is_well_formed
tests_left s l e v r o w = simp (le-leb 8 (length s) l, e, v, r, o, w)

never : false ≡ true → ⊥
never h = let z : ◌≡◌ {A = ℕ} 0 1 = cc in omega arith

-- of five tests that all hold: the first, the fourth and the last
five : (a b c d e : Bool) → a && b && c && d && e ≡ true → (a ≡ true) × ((d ≡ true) × (e ≡ true))
five true true true true e h = (refl, (refl, h))
five true true true false e h = absurd (never h)
five true true false d e h = absurd (never h)
five true false c d e h = absurd (never h)
five false b c d e h = absurd (never h)

module _ (s : List ℕ) (well : is_well_formed s ≡ true) where
  held : (leb 8 (length s) ≡ true) × ((writes (result_in s) ≡ true) × (eqb (length s) (8 + entry (result_in s) * count_in s) ≡ true))
  unfolding is_well_formed
  held = five (leb 8 (length s)) _ _ _ _ well

  pub form_long : 8 ≤ length s
  form_long = leb-true 8 (length s) held.0

  pub form-writes : writes (result_in s) ≡ true
  form-writes = held.1.0

  pub form-length : length s ≡ 8 + entry (result_in s) * count_in s
  form-length = eqb-true (length s) (8 + entry (result_in s) * count_in s) held.1.1

-- ---- what the reader's answer tells

module _ (s : List ℕ) (r c : ℕ) where
  picked : (b : Bool) → good r c ≡ cond b (good (result_in s) (count_in s)) bad → (b ≡ true) × ((r ≡ result_in s) × (c ≡ count_in s))
  picked true e = (refl, (cc, cc))
  picked false e = let z : ◌≡◌ {A = ℕ} 0 1 = cc in absurd (omega arith)

  -- the parts of a good form: the report is well formed, and these are its result and its count
  pub form_parts : good r c ≡ form s → (is_well_formed s ≡ true) × ((r ≡ result_in s) × (c ≡ count_in s))
  unfolding form
  form_parts e = picked (is_well_formed s) e

  pub good_writes : good r c ≡ form s → writes r ≡ true
  good_writes e = let p = form_parts e in ap writes p.1.0 ∙ form-writes s p.0

  -- the body has the bytes of c entries
  pub good_length : good r c ≡ form s → length (body s) ≡ entry r * c
  unfolding body
  good_length e =
      let p = form_parts e in
      let all : length s ≡ 8 + entry r * c = form-length s p.0 ∙ sym (ap₂ (λ (n k : ℕ). 8 + entry n * k) p.1.0 p.1.1) in
      rw p.0 (omega (arith, length-drop 8 s))

  -- the entries: the bytes of the body, or the numbers in them
  pub good_labels : good r c ≡ form s → r ≡ 0 → entries s ≡ body s
  unfolding entries
  good_labels e z = simp (eq-eqb (result_in s) 0 (sym (form_parts e).1.0 ∙ z))

  pub good_list : good r c ≡ form s → (r ≡ 0 → ⊥) → entries s ≡ words (body s) 0 c
  unfolding entries
  good_list e d =
      let p = form_parts e in simp (ne_eqb (result_in s) 0 (λ z. d (p.1.0 ∙ z))) (ap (words (body s) 0) (sym p.1.1))
