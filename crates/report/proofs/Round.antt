-- A report that was written is read back: its form, its body and its entries, for every result that writes. Assumes nothing.
use mathlib.Core.Path.{◌≡◌, refl, sym, ap, ap₂, ◌∙◌}
use mathlib.Core.Bool.{Bool, true, false, cond}
use mathlib.Core.List.{List, [], ◌++◌, append-nil}
use Prim.Native.Nat.{ℕ, ◌+◌, ◌*◌}
use native.Mathlib.Omega.{arith}
use borrow.Author.Tests.{eq-eqb}
use lib.Dec.{eqb}
use lib.ListN.{length}
use Rattle.rules.specs.Words.{u16, words, bytes}
use Rattle.rules.specs.Report.{writes, entry, report, good, bad, is_well_formed, form, body, entries, count_in}
use Rattle.rules.proofs.Bytes.{words-bytes, bytes-length}
use Rattle.report.specs.Headers.{header}
use Rattle.report.proofs.Good.{tests_left}
use Rattle.report.proofs.Laws.{report_is}

-- ---- any body behind a header

count_in_lem : (n c : ℕ) (t : List ℕ) → count_in (header n c ++ t) ≡ c
unfolding u16
count_in_lem n c t = omega arith

version_in : (n c : ℕ) (t : List ℕ) → u16 (header n c ++ t) 3 ≡ 1
unfolding u16
version_in n c t = refl

well_headed : (n c : ℕ) (t : List ℕ) → writes n ≡ true → length t ≡ entry n * c → is_well_formed (header n c ++ t) ≡ true
well_headed n c t w e =
    let s = header n c ++ t in
    let same : entry n * count_in s ≡ length t = ap (λ (k : ℕ). entry n * k) (count_in_lem n c t) ∙ sym e in
    tests_left s (omega arith) refl refl refl (version_in n c t) w ∙ eq-eqb (length s) (8 + entry n * count_in s) (omega arith)

-- the bytes of the entries are as many as the form asks
content_length : (b : Bool) (l : List ℕ) → length (cond b l (bytes l)) ≡ cond b 1 2 * length l
content_length true l = omega arith
content_length false l = bytes-length l

read_back : (b : Bool) (l : List ℕ) → cond b (cond b l (bytes l)) (words (cond b l (bytes l)) 0 (length l)) ≡ l
read_back true l = refl
read_back false l = ap (λ (s : List ℕ). words s 0 (length l)) (sym (append-nil (bytes l))) ∙ words-bytes [] l []

-- ---- the report with the result n and the entries l

module _ (n : ℕ) (l : List ℕ) (w : writes n ≡ true) where
  content : List ℕ
  content = cond (eqb n 0) l (bytes l)

  well : is_well_formed (header n (length l) ++ content) ≡ true
  unfolding content
  well = well_headed n (length l) content w (content_length (eqb n 0) l)

  pub round_well : is_well_formed (report n l) ≡ true
  unfolding content
  round_well = ap is_well_formed (report_is n l w) ∙ well

  pub round_form : form (report n l) ≡ good n (length l)
  unfolding content form
  round_form =
      ap form (report_is n l w)
      ∙ ap (λ (b : Bool). cond b (good n (count_in (header n (length l) ++ content))) bad) well
      ∙ ap (good n) (count_in_lem n (length l) content)

  pub round_body : body (report n l) ≡ cond (eqb n 0) l (bytes l)
  unfolding content body
  round_body = ap body (report_is n l w) ∙ ap (λ (b : Bool). cond b content []) well

  pub round_entries : entries (report n l) ≡ l
  unfolding content entries
  round_entries =
      let s = header n (length l) ++ content in
      let b : body s ≡ content = sym (ap body (report_is n l w)) ∙ round_body in
      ap entries (report_is n l w)
      ∙ ap₂ (λ (t : List ℕ) (c : ℕ). cond (eqb n 0) t (words t 0 c)) b (count_in_lem n (length l) content)
      ∙ read_back (eqb n 0) l

-- ---- labels and cuts

pub labels-form : (l : List ℕ) → form (report 0 l) ≡ good 0 (length l)
labels-form l = round_form 0 l refl

pub labels-entries : (l : List ℕ) → entries (report 0 l) ≡ l
labels-entries l = round_entries 0 l refl

pub cut_form : (l : List ℕ) → form (report 14 l) ≡ good 14 (length l)
cut_form l = round_form 14 l refl

pub cut_entries : (l : List ℕ) → entries (report 14 l) ≡ l
cut_entries l = round_entries 14 l refl
