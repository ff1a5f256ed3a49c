-- What a report deserves, from what its reader answers and what its evidence shows. Assumes nothing.
use mathlib.Core.Path.{◌≡◌, refl, sym, ap, ap₂, subst, ◌∙◌}
use mathlib.Core.Logic.{◌≢◌, inl, inr}
use mathlib.Core.Bool.{Bool, true, false, cond}
use mathlib.Core.List.{List}
use Prim.Native.Nat.{ℕ, ◌*◌, ◌/◌}
use native.Mathlib.Decide.{ℕ_discrete}
use native.Mathlib.Omega.{arith}
use borrow.Author.Tests.{eq-eqb, ne_eqb}
use lib.ListN.{length}
use Rattle.drawing.specs.Drawing.{Drawing, darts}
use Rattle.drawing.specs.Conditions.{Labelling, Cut}
use Rattle.rules.specs.Words.{words}
use Rattle.rules.specs.Report.{good, bad, is_well_formed, form, body, entry, entries, result_in, count_in}
use Rattle.rules.specs.Judge.{fits, Either, Deserves}
use Rattle.report.proofs.Good.{form_parts, good_length, good_labels, good_list}
use Rattle.judge.specs.Verdicts.{Reported}
use Rattle.judge.specs.declared.Fault.TheVariants.{Form, Evidence}
use Rattle.judge.specs.declared.Verdict.TheVariants.{LabelsHold, CutHolds, Report}

-- a report that does not fit gets J2
unfit : (g : Drawing) (s : List ℕ) → fits g s ≡ false → Deserves g s 2
unfit g s e = rw e refl

not_well : (s : List ℕ) → bad ≡ form s → is_well_formed s ≡ false
unfolding form
not_well s e = go (is_well_formed s) e
  where
    go : (b : Bool) → bad ≡ cond b (good (result_in s) (count_in s)) bad → b ≡ false
    go true q = absurd (let z : ◌≡◌ {A = ℕ} 0 1 = cc in omega arith)
    go false q = refl

pub bad_form : (g : Drawing) (s : List ℕ) → bad ≡ form s → Reported g s (Report (Form 2))
unfolding fits
bad_form g s e = (2, unfit g s (rw (not_well s e)), refl)

-- the report's result and count, as read, and the bytes of its body
module _ (g : Drawing) (s : List ℕ) (r c : ℕ) (read : good r c ≡ form s) (t : List ℕ) (same : t ≡ body s) where
  well : is_well_formed s ≡ true
  well = (form_parts s r c read).0

  result : result_in s ≡ r
  result = sym (form_parts s r c read).1.0

  number : count_in s ≡ c
  number = sym (form_parts s r c read).1.1

  -- the body has a byte for each label, two for each entry of a list
  body_length : length t ≡ entry r * c
  body_length = ap length same ∙ good_length s r c read

  other_result : r ≢ 0 → r ≢ 14 → Deserves g s 2
  unfolding fits
  other_result d e = unfit g s (rw (well, ne_eqb (result_in s) 0 (λ z. d (sym result ∙ z)), ne_eqb (result_in s) 14 (λ z. e (sym result ∙ z))))

  other_count : r ≡ 0 → c ≢ darts g → Deserves g s 2
  unfolding fits
  other_count z d =
      let zero : result_in s ≡ 0 = result ∙ z in
      unfit g s (rw (well, zero, ne_eqb (count_in s) (darts g) (λ e. d (sym number ∙ e))))

  pub other : (r ≡ 0 → c ≢ darts g) → r ≢ 14 → Reported g s (Report (Form 2))
  other h e = (2, elim (ℕ_discrete r 0) [ yes z ↦ other_count z (h z) | no d ↦ other_result d e ], refl)

  module _ (z : r ≡ 0) (e : c ≡ darts g) where
    pub labels_length : length t ≡ darts g
    labels_length = let one : entry r * c ≡ 1 * c = ap (λ (q : ℕ). entry q * c) z in omega (arith, body_length)

    labels : (j : ℕ) → Either (Labelling g t) 0 3 j → Deserves g s j
    unfolding fits
    labels j h =
        let zero : result_in s ≡ 0 = result ∙ z in
        let whole : count_in s ≡ darts g = number ∙ e in
        rw (well, zero, eq-eqb (count_in s) (darts g) whole)
        (subst (λ (l : List ℕ). Either (Labelling g l) 0 3 j) (same ∙ sym (good_labels s r c read z)) h)

    pub labels_right : Labelling g t → Reported g s LabelsHold
    labels_right L = (0, labels 0 (inl (L, refl)), refl)

    pub labels_wrong : (Labelling g t → ⊥) → Reported g s (Report (Evidence 3))
    labels_wrong L = (3, labels 3 (inr (L, refl)), refl)

  module _ (z : r ≡ 14) where
    half : length t / 2 ≡ c
    half = let two : entry r * c ≡ 2 * c = ap (λ (q : ℕ). entry q * c) z in omega (arith, body_length)

    cut : (j : ℕ) → Either (Cut g (words t 0 (length t / 2))) 1 4 j → Deserves g s j
    unfolding fits
    cut j h =
        let fourteen : result_in s ≡ 14 = result ∙ z in
        let list : words t 0 (length t / 2) ≡ entries s = ap₂ (λ (l : List ℕ) (k : ℕ). words l 0 k) same half ∙ sym (good_list s r c read (λ q. absurd (omega arith))) in
        rw (well, fourteen) (subst (λ (l : List ℕ). Either (Cut g l) 1 4 j) list h)

    pub cut_right : Cut g (words t 0 (length t / 2)) → Reported g s CutHolds
    cut_right C = (1, cut 1 (inl (C, refl)), refl)

    pub cut_wrong : (Cut g (words t 0 (length t / 2)) → ⊥) → Reported g s (Report (Evidence 4))
    cut_wrong C = (4, cut 4 (inr (C, refl)), refl)
