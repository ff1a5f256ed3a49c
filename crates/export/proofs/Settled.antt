-- The packed answers are one for each input, and can be unpacked: different answers have different numbers. Assumes nothing.
--   tested_unique, tested_parts         the test's answer; its number and its bytes written, out of the packed number
--   form_packed_unique, form_parted     the report's form
--   body_packed_unique, body_parted     the place of its body
--   weighed_unique, weighed_parted      the verdict
use mathlib.Core.Path.{◌≡◌, refl, sym, ap, ap₂, subst, ◌∙◌}
use mathlib.Core.Logic.{inl, inr}
use mathlib.Core.Bool.{Bool, true, false, cond, not}
use mathlib.Core.List.{List}
use Prim.Native.Nat.{ℕ, ◌*◌, ◌/◌, ◌%◌, ◌≤◌, ◌<◌}
use native.Mathlib.Omega.{arith}
use lib.Dec.{T, eqb}
use lib.ListN.{length, get_or}
use Rattle.rules.specs.Chart.{drawing}
use Rattle.rules.specs.Report.{Form, good, bad, form, body, body_start, Outcome}
use Rattle.rules.specs.Judge.{Verdict, chart, J, Judged}
use Rattle.rules.proofs.Unique.{free, outcome_unique, labelled_length, judged_unique}
use Rattle.report.proofs.Good.{good_length}
use Rattle.desk.proofs.Fits.{outcome_fits}
use Rattle.export.specs.Packed.{Tested, pack_form, pack_body, pack_verdict, Weighed}
use Rattle.export.proofs.Small.{good_small, bad_body, deserves_small}

-- ---- the test

module _ (s r a b : List ℕ) (x y : ℕ) (p : Tested s r x a) (q : Tested s r y b) where
  same : (p.number ≡ q.number) × (T (not (free p.number)) → (p.written ≡ q.written) × (a ≡ b))
  same = outcome_unique s r p.number p.written q.number q.written a b p.outcome q.outcome

  packs : p.written ≡ q.written → x ≡ y
  packs e = omega (arith, p.packed, q.packed, same.0, e)

  -- an accepted chart has a label for each corner, whichever labelling is written
  accepted : p.number ≡ 0 → p.written ≡ q.written
  accepted e =
      labelled_length s r p.written q.written a b (subst (λ (n : ℕ). Outcome s r n p.written a) e p.outcome)
      (subst (λ (n : ℕ). Outcome s r n q.written b) (sym same.0 ∙ e) q.outcome)

  -- the number is one; unless a circle or a cut is written, so is the answer; unless a labelling, a circle or a cut is, so is the report
  pub tested_unique : (p.number ≡ q.number) × (p.number ≡ 0 → x ≡ y) × (T (not (free p.number)) → (x ≡ y) × (a ≡ b))
  tested_unique = (same.0, λ e. packs (accepted e), λ t. (packs (same.1 t).0, (same.1 t).1))

pub tested_parts : (s r a : List ℕ) (x : ℕ) (p : Tested s r x a) → (x / 65536 ≡ p.number) × (x % 65536 ≡ p.written)
tested_parts s r a x p =
    let fits = outcome_fits s r p.number p.written a p.outcome in
    (omega (arith, p.packed, fits), omega (arith, p.packed, fits))

-- ---- the report's form

-- a list of bytes
abbrev Bytes : List ℕ → Type 0
Bytes s = (i : ℕ) → get_or s i 0 < 256

pub form_packed_unique : (s : List ℕ) (x y : ℕ) → x ≡ pack_form (form s) → y ≡ pack_form (form s) → x ≡ y
form_packed_unique s x y p q = p ∙ sym q

-- a form whose number can be unpacked: its result is at most 14, its count has 16 bits
abbrev Small : Form → Type 0
Small (good r c) = (r ≤ 14) × (c < 65536)
Small bad = Unit {0}

small_form : (s : List ℕ) → Bytes s → (f : Form) → f ≡ form s → Small f
small_form s byte (good r c) e = good_small s r c e byte
small_form s byte bad e = tt

small_one : (f k : Form) → Small f → Small k → pack_form f ≡ pack_form k → f ≡ k
small_one (good r c) (good q d) h i e =
    let result : r ≡ q = omega (arith, h.1, i.1) in
    let count : c ≡ d = omega (arith, h.1, i.1) in
    ap₂ good result count
small_one (good r c) bad h i e = absurd (omega (arith, h.0, h.1))
small_one bad (good q d) h i e = absurd (omega (arith, i.0, i.1))
small_one bad bad h i e = refl

-- two reports with one number have one form
pub form_parted : (s t : List ℕ) → Bytes s → Bytes t → pack_form (form s) ≡ pack_form (form t) → form s ≡ form t
form_parted s t b c e = small_one (form s) (form t) (small_form s b (form s) refl) (small_form t c (form t) refl) e

-- ---- the place of the report's body

pub body_packed_unique : (s : List ℕ) (x y : ℕ) → x ≡ pack_body s → y ≡ pack_body s → x ≡ y
body_packed_unique s x y p q = p ∙ sym q

few_bytes : (b : Bool) (n c : ℕ) → n ≡ cond b 1 2 * c → c < 65536 → n < 131072
few_bytes true n c e h = omega arith
few_bytes false n c e h = omega arith

body_small : (s : List ℕ) → Bytes s → (f : Form) → f ≡ form s → length (body s) < 131072
body_small s byte (good r c) e = few_bytes (eqb r 0) (length (body s)) c (good_length s r c e) (good_small s r c e byte).1
body_small s byte bad e = omega (arith, bad_body s e)

-- two reports with one number have bodies of one place and one length
pub body_parted : (s t : List ℕ) → Bytes s → Bytes t → pack_body s ≡ pack_body t
    → (body_start s ≡ body_start t) × (length (body s) ≡ length (body t))
body_parted s t b c e =
    let h = body_small s b (form s) refl in
    let k = body_small t c (form t) refl in
    (omega (arith, h, k, e), omega (arith, h, k, e))

-- ---- the verdict

pub weighed_unique : (s r : List ℕ) (x y : ℕ) → Weighed s r x → Weighed s r y → x ≡ y
weighed_unique s r x y p q = p.packed ∙ ap pack_verdict (judged_unique s r p.verdict q.verdict p.judged q.judged) ∙ sym q.packed

-- two verdicts of the judge with one number are one
pub weighed_parted : (s r t q : List ℕ) (v u : Verdict) → Judged s r v → Judged t q u → pack_verdict v ≡ pack_verdict u → v ≡ u
weighed_parted s r t q v u (inl p) (inl k) e =
    let n : p.0 ≡ k.0 = omega (arith, e, ap pack_verdict p.3, ap pack_verdict k.3) in
    p.3 ∙ ap chart n ∙ sym k.3
weighed_parted s r t q v u (inl p) (inr k) e =
    absurd (omega (arith, e, ap pack_verdict p.3, ap pack_verdict k.3, deserves_small (drawing t) q k.0 k.2))
weighed_parted s r t q v u (inr p) (inl k) e =
    absurd (omega (arith, e, ap pack_verdict p.3, ap pack_verdict k.3, deserves_small (drawing s) r p.0 p.2))
weighed_parted s r t q v u (inr p) (inr k) e =
    let j : p.0 ≡ k.0 = omega (arith, e, ap pack_verdict p.3, ap pack_verdict k.3) in
    p.3 ∙ ap J j ∙ sym k.3
