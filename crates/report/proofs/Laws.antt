-- What the report's writer goes by: which results write, what its stores leave, and that this is the report. Assumes nothing.
use mathlib.Core.Path.{◌≡◌, refl, sym, ap, ap₂, subst, ◌∙◌}
use mathlib.Core.Bool.{Bool, true, false, cond}
use mathlib.Core.List.{List, [], ◌∷◌, ◌++◌, append_assoc}
use Prim.Native.Nat.{ℕ, ◌+◌, ◌*◌, ◌-◌, ◌/◌, ◌%◌, ◌≤◌, ◌<◌}
use native.Mathlib.Decide.{ℕ_discrete}
use native.Mathlib.Omega.{arith}
use native.Mathlib.Numerals.{add-one}
use borrow.Author.Tests.{ne_eqb}
use lib.Dec.{eqb}
use lib.ListN.{length, get_or, take, drop, set, length-append, length-drop, take-append-drop}
use lib.Seq.{sets-eq, drop_at, take_at, take-suc, drop-append-add, drop-drop, length-take-le}
use Rattle.rules.specs.Words.{bytes}
use Rattle.rules.specs.Report.{writes, entry, report}
use Rattle.rules.proofs.Bytes.{bytes-length}
use Rattle.words.specs.Tables.{with_word}
use Rattle.report.specs.Headers.{header}

-- ---- results

pub writes-none : (n : ℕ) → (n ≡ 0 → ⊥) → n < 12 → writes n ≡ false
writes-none n z l = simp (ne_eqb n 0 z, ne_eqb n 12 (λ e. omega arith), ne_eqb n 13 (λ e. omega arith), ne_eqb n 14 (λ e. omega arith))

pub writes_past : (n : ℕ) → 15 ≤ n → writes n ≡ false
writes_past n l = simp (ne_eqb n 0 (λ e. omega arith), ne_eqb n 12 (λ e. omega arith), ne_eqb n 13 (λ e. omega arith), ne_eqb n 14 (λ e. omega arith))

-- 12, 13 and 14 write a list
listed : (P : ℕ → Type 0) → P 12 → P 13 → P 14 → (n : ℕ) → 12 ≤ n → n ≤ 14 → P n
listed P a b c n l h =
    elim (ℕ_discrete n 12) [
      | yes e ↦ subst P (sym e) a
      | no x ↦ elim (ℕ_discrete n 13) [
        | yes e ↦ subst P (sym e) b
        | no y ↦ let e : 14 ≡ n = omega arith in subst P e c
      ]
    ]

pub writes_listed : (n : ℕ) → 12 ≤ n → n ≤ 14 → writes n ≡ true
writes_listed = listed (λ n. writes n ≡ true) refl refl refl

-- ---- what the stores leave

pub header_put : (s : List ℕ) (n c : ℕ) → 8 ≤ length s
    → with_word (set (with_word (69 ∷ 86 ∷ 82 ∷ drop 3 s) 3 1) 5 n) 6 c ≡ header n c ++ drop 8 s
unfolding with_word
header_put s n c h =
    sets-eq (1 ∷ 0 ∷ n ∷ c % 256 ∷ c / 256 ∷ []) (69 ∷ 86 ∷ 82 ∷ drop 3 s) 3 (omega (arith, length-drop 3 s))
    ∙ ap (λ (q : List ℕ). header n c ++ q) (drop-drop 5 3 s)

-- a number stored in two bytes
word_put : (s : List ℕ) (i v : ℕ) → i + 2 ≤ length s → with_word s i v ≡ take i s ++ (v % 256 ∷ v / 256 ∷ drop (i + 2) s)
unfolding with_word
word_put s i v h =
    let two : List ℕ = v % 256 ∷ v / 256 ∷ [] in
    ap (λ (k : ℕ). set (set s i (v % 256)) k (v / 256)) (add-one i) ∙ sets-eq two s i h ∙ append_assoc (take i s) two (drop (i + 2) s)

bytes-append : (xs ys : List ℕ) → bytes (xs ++ ys) ≡ bytes xs ++ bytes ys
unfolding bytes
bytes-append [] ys = refl
bytes-append (x ∷ xs) ys = ap (λ (l : List ℕ). x % 256 ∷ x / 256 ∷ l) (bytes-append xs ys)

-- r with the first i numbers of l behind the place of the header
abbrev pub behind : List ℕ → List ℕ → ℕ → List ℕ
behind r l i = take 8 r ++ (bytes (take i l) ++ drop (8 + 2 * i) r)

pub behind_none : (r l : List ℕ) → r ≡ behind r l 0
unfolding bytes
behind_none r l = sym (take-append-drop 8 r)

module _ (r l : List ℕ) (i : ℕ) (inside : i < length l) (room : 10 + 2 * i ≤ length r) where
  head : List ℕ
  head = take 8 r ++ bytes (take i l)

  head-length : length head ≡ 8 + 2 * i
  unfolding head
  head-length = omega (arith, length-append (take 8 r) (bytes (take i l)), length-take-le 8 r (omega arith), bytes-length (take i l), length-take-le i l (omega arith))

  -- one number more
  pub behind_more : with_word (behind r l i) (8 + 2 * i) (get_or l i 0) ≡ behind r l (i + 1)
  unfolding head bytes
  behind_more =
      let v = get_or l i 0 in
      let at = 8 + 2 * i in
      let rest = drop at r in
      let two : List ℕ = v % 256 ∷ v / 256 ∷ [] in
      let same : behind r l i ≡ head ++ rest = sym (append_assoc (take 8 r) (bytes (take i l)) rest) in
      let long : at + 2 ≤ length (head ++ rest) = omega (arith, length-append head rest, head-length, length-drop at r) in
      let before : take at (head ++ rest) ≡ head = take_at head rest at head-length in
      let next : at + 2 ≡ 8 + 2 * (i + 1) = omega arith in
      let past : drop (at + 2) (head ++ rest) ≡ drop (8 + 2 * (i + 1)) r =
      ap (λ (k : ℕ). drop (k + 2) (head ++ rest)) (sym head-length) ∙ drop-append-add head rest 2 ∙ drop-drop 2 at r ∙ ap (λ (k : ℕ). drop k r) next in
      let one : bytes (take (i + 1) l) ≡ bytes (take i l) ++ two =
      ap (λ (k : ℕ). bytes (take k l)) (add-one i) ∙ ap bytes (take-suc l i 0 inside) ∙ bytes-append (take i l) (v ∷ []) in
      ap (λ (s : List ℕ). with_word s at v) same ∙ word_put (head ++ rest) at v long
      ∙ ap₂ (λ (p q : List ℕ). p ++ (v % 256 ∷ v / 256 ∷ q)) before past
      ∙ append_assoc (take 8 r) (bytes (take i l)) (two ++ drop (8 + 2 * (i + 1)) r)
      ∙ ap (λ (q : List ℕ). take 8 r ++ q) (sym (append_assoc (bytes (take i l)) two (drop (8 + 2 * (i + 1)) r)) ∙ ap (λ (q : List ℕ). q ++ drop (8 + 2 * (i + 1)) r) (sym one))

-- ---- the report that is written

-- header and body of a result that writes
pub report_is : (n : ℕ) (l : List ℕ) → writes n ≡ true → report n l ≡ header n (length l) ++ cond (eqb n 0) l (bytes l)
unfolding report bytes
report_is n l w = ap (λ (b : Bool). cond b (header n (length l) ++ cond (eqb n 0) l (bytes l)) []) w

-- the header put where the place for it was left
headed : (b h t : List ℕ) → 8 ≤ length b → h ++ drop 8 (take 8 b ++ t) ≡ h ++ t
headed b h t l = ap (λ (q : List ℕ). h ++ q) (drop_at (take 8 b) t 8 (length-take-le 8 b l))

-- l is a list with the result n: an entry has two bytes, and the numbers put behind the header make the report
module _ (n : ℕ) (l : List ℕ) (low : 12 ≤ n) (high : n ≤ 14) where
  list_is : report n l ≡ header n (length l) ++ bytes l
  list_is = report_is n l (writes_listed n low high) ∙ simp (ne_eqb n 0 (λ e. omega arith))

  pub list_size : 8 + entry n * length l ≡ 8 + 2 * length l
  list_size = simp (ne_eqb n 0 (λ e. omega arith))

  pub list_length : 8 + 2 * length l ≡ length (report n l)
  list_length = omega (arith, ap length list_is, bytes-length l)

  pub list_report : (b : List ℕ) → 8 ≤ length b
      → header n (length l) ++ drop 8 (take 8 b ++ (bytes l ++ drop (8 + 2 * length l) b)) ≡ report n l ++ drop (8 + 2 * length l) b
  list_report b h =
      let rest = drop (8 + 2 * length l) b in
      headed b (header n (length l)) (bytes l ++ rest) h
      ∙ sym (append_assoc (header n (length l)) (bytes l) rest)
      ∙ ap (λ (q : List ℕ). q ++ rest) (sym list_is)

-- ---- labels written in place: a caller lends the bytes of b from 8 to 8 + n, then puts the header

-- how long the part is that is lent
pub part_length : (b : List ℕ) (n : ℕ) → 8 + n ≤ length b → length (take (8 + n - 8) (drop 8 b)) ≡ n
part_length b n h = let same : 8 + n - 8 ≡ n = omega arith in rw same (length-take-le n (drop 8 b) (omega (arith, length-drop 8 b)))

-- l stands in the part: the report with the labels l
pub labels-report : (b l : List ℕ) (n : ℕ) → 8 + n ≤ length b → length l ≡ n
    → header 0 n ++ drop 8 (take 8 b ++ (l ++ drop (8 + n - 8) (drop 8 b))) ≡ report 0 l ++ drop (8 + n) b
labels-report b l n h e =
    let same : 8 + (8 + n - 8) ≡ 8 + n = omega arith in
    headed b (header 0 n) (l ++ drop (8 + n - 8) (drop 8 b)) (omega arith)
    ∙ ap₂ (λ (c : ℕ) (q : List ℕ). header 0 c ++ (l ++ q)) (sym e) (drop-drop (8 + n - 8) 8 b ∙ ap (λ (c : ℕ). drop c b) same)
    ∙ ap (λ (q : List ℕ). q ++ drop (8 + n) b) (sym (report_is 0 l refl))

pub labels_length : (l : List ℕ) (n : ℕ) → length l ≡ n → 8 + n ≡ length (report 0 l)
labels_length l n e = omega (arith, ap length (report_is 0 l refl))
