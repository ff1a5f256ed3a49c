-- The body of a report that was written: the labels, or the 16-bit numbers; and bounds of these. Assumes nothing.
use mathlib.Core.Path.{◌≡◌, refl, sym, ap, ap₂, subst, ◌∙◌}
use mathlib.Core.Bool.{Bool, true, false, cond}
use mathlib.Core.List.{List, [], append-nil}
use Prim.Native.Nat.{ℕ, ◌-◌, ◌/◌, ◌≤◌, ◌<◌}
use native.Mathlib.Omega.{arith}
use lib.Dec.{eqb}
use lib.ListN.{length, take, drop, length-drop}
use lib.Seq.{take_all}
use Rattle.finite.specs.Lists.{All}
use Rattle.finite.proofs.Lists.{all_map, all_take, all-below}
use Rattle.drawing.specs.Drawing.{Drawing, darts, mixed, mixed_events}
use Rattle.drawing.proofs.Few.{round_all}
use Rattle.rules.specs.Words.{words, bytes}
use Rattle.rules.specs.Report.{writes, report, Entries}
use Rattle.rules.proofs.Bytes.{words-bytes, bytes-length}
use Rattle.report.proofs.Laws.{report_is}
use Rattle.lines.specs.Follow.{numbers}

-- a report without its first 8 bytes
abbrev pub body : List ℕ → List ℕ
body b = take (length b - 8) (drop 8 b)

body-drop : (b : List ℕ) → body b ≡ drop 8 b
body-drop b = take_all (length b - 8) (drop 8 b) (omega (arith, length-drop 8 b))

pub body-length : (b : List ℕ) → length (body b) ≡ length b - 8
body-length b = ap length (body-drop b) ∙ length-drop 8 b

-- a result that writes has a header
pub long : (n : ℕ) (b l : List ℕ) → writes n ≡ true → b ≡ report n l → 8 ≤ length b
long n b l w e = omega (arith, ap length (e ∙ report_is n l w))

-- ---- labels

pub body-labels : (n : ℕ) (b l : List ℕ) → n ≡ 0 → b ≡ report n l → body b ≡ l
body-labels n b l z e = body-drop b ∙ ap (drop 8) (e ∙ ap (λ (k : ℕ). report k l) z ∙ report_is 0 l refl)

-- ---- 16-bit numbers

-- the results that write them
abbrev pub Sixteen : ℕ → Type 0
Sixteen n = (writes n ≡ true) × (eqb n 0 ≡ false)

body_bytes : (n : ℕ) (b l : List ℕ) → Sixteen n → b ≡ report n l → body b ≡ bytes l
body_bytes n b l h e = body-drop b ∙ ap (drop 8) (e ∙ report_is n l h.0) ∙ ap (λ (z : Bool). cond z l (bytes l)) h.1

numbers-bytes : (l : List ℕ) → numbers (bytes l) ≡ l
numbers-bytes l =
    let half : length (bytes l) / 2 ≡ length l = omega (arith, bytes-length l) in
    ap₂ (λ (s : List ℕ) (k : ℕ). words s 0 k) (sym (append-nil (bytes l))) half ∙ words-bytes [] l []

pub body-numbers : (n : ℕ) (b l : List ℕ) → Sixteen n → b ≡ report n l → numbers (body b) ≡ l
body-numbers n b l h e = ap numbers (body_bytes n b l h e) ∙ numbers-bytes l

-- ---- bounds of the entries

-- the entries for 12, 13 and 14 are events or arrows
module _ (g : Drawing) (few : g.events ≤ 1024) (short : darts g ≤ 6144) (l : List ℕ) where
  pub mixed_low : Entries g 12 l → All (λ x. x < 10000) l
  unfolding mixed_events
  mixed_low e =
      subst (All (λ x. x < 10000)) (sym e)
      (all_map (λ x h. omega arith) (take 1 (mixed_events g)) (all_take (λ x. x < g.events) 1 (mixed_events g) (all-below g.events (mixed g))))

  pub circle_low : Entries g 13 l → All (λ x. x < 10000) l
  circle_low e = all_map (λ x h. omega arith) l (round_all g l e.0.round)

  pub cut_low : Entries g 14 l → All (λ x. x < 10000) l
  cut_low e = all_map (λ x h. omega (arith, h.0)) l e.poles
