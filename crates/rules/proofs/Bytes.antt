-- What is read from a chart's bytes, and that a drawing is read back from its chart. Assumes nothing.
use mathlib.Core.Path.{◌≡◌, refl, sym, ap, ap₂, ◌∙◌}
use mathlib.Core.List.{List, [], ◌∷◌, ◌++◌, append_assoc, append-nil}
use Prim.Native.Nat.{ℕ, zero, suc, ◌+◌, ◌*◌, ◌/◌, ◌%◌, ◌<◌}
use native.Mathlib.Nat.{not-suc-le-zero, le_of_suc-le-suc}
use native.Mathlib.Omega.{arith}
use lib.ListN.{length, get_or, take, length-append}
use lib.Seq.{get_or-append-add, get_or_at}
use Rattle.rules.specs.Words.{u16, words, bytes}
use Rattle.drawing.specs.Drawing.{Drawing, darts, arrows, event, after}
use Rattle.rules.specs.Chart.{drawing, charted, events_in, arrows_in}

pub words-length : (s : List ℕ) (i n : ℕ) → length (words s i n) ≡ n
unfolding words
words-length s i zero = refl
words-length s i (suc n) = ap suc (words-length s (i + 2) n)

pub words_at_lem : (s : List ℕ) (i n d : ℕ) → d < n → get_or (words s i n) d 0 ≡ u16 s (i + 2 * d)
unfolding words
words_at_lem s i zero d h = absurd (not-suc-le-zero h)
words_at_lem s i (suc n) zero h = ap (u16 s) (omega arith)
words_at_lem s i (suc n) (suc d) h = words_at_lem s (i + 2) n d (le_of_suc-le-suc h) ∙ ap (u16 s) (omega arith)

pub darts-drawing : (s : List ℕ) → darts (drawing s) ≡ 2 * arrows_in s
unfolding drawing
darts-drawing s = words-length s 11 (2 * arrows_in s)

pub darts_even : (s : List ℕ) → darts (drawing s) % 2 ≡ 0
darts_even s = omega (arith, darts-drawing s)

pub event-drawing : (s : List ℕ) (d : ℕ) → d < 2 * arrows_in s → event (drawing s) d ≡ u16 s (11 + 2 * d)
unfolding drawing
event-drawing s d h = words_at_lem s 11 (2 * arrows_in s) d h

pub after-drawing : (s : List ℕ) (d : ℕ) → d < 2 * arrows_in s → after (drawing s) d ≡ u16 s (11 + 4 * arrows_in s + 2 * d)
unfolding drawing
after-drawing s d h = words_at_lem s (11 + 4 * arrows_in s) (2 * arrows_in s) d h

-- ---- a drawing is read back from its chart

pub words-bytes : (p xs r : List ℕ) → words (p ++ (bytes xs ++ r)) (length p) (length xs) ≡ xs
unfolding words bytes u16
words-bytes p [] r = refl
words-bytes p (x ∷ xs) r =
    let t = bytes xs ++ r in
    let two : List ℕ = x % 256 ∷ x / 256 ∷ [] in
    let first : u16 (p ++ (x % 256 ∷ x / 256 ∷ t)) (length p) ≡ x =
    omega (arith, get_or_at p (x % 256) (x / 256 ∷ t) 0 (length p) refl, get_or-append-add p (x % 256 ∷ x / 256 ∷ t) 1 0) in
    let rest : words (p ++ (x % 256 ∷ x / 256 ∷ t)) (length p + 2) (length xs) ≡ xs =
    ap₂ (λ (s : List ℕ) (i : ℕ). words s i (length xs)) (sym (append_assoc p two t)) (sym (length-append p two)) ∙ words-bytes (p ++ two) xs r in
    ap₂ ◌∷◌ first rest

pub bytes-length : (xs : List ℕ) → length (bytes xs) ≡ 2 * length xs
unfolding bytes
bytes-length [] = refl
bytes-length (x ∷ xs) = omega (arith, bytes-length xs)

pub drawing-charted : (g : Drawing) → darts g % 2 ≡ 0 → length g.next ≡ darts g → drawing (charted g) ≡ g
unfolding drawing charted bytes u16
drawing-charted g even same =
    let s = charted g in
    let p : List ℕ = take 11 s in
    let a : arrows_in s ≡ arrows g = omega arith in
    let twice : 2 * arrows_in s ≡ darts g = omega (arith, a) in
    let far : 11 + 4 * arrows_in s ≡ length (p ++ bytes g.at) = omega (arith, a, length-append p (bytes g.at), bytes-length g.at) in
    let e : events_in s ≡ g.events = omega arith in
    let o : u16 s 9 ≡ g.outer = omega arith in
    let at : words s 11 (2 * arrows_in s) ≡ g.at = ap (words s 11) twice ∙ words-bytes p g.at (bytes g.next) in
    let next : words s (11 + 4 * arrows_in s) (2 * arrows_in s) ≡ g.next =
    ap₂ (words s) far (twice ∙ sym same)
    ∙ ap (λ (t : List ℕ). words t (length (p ++ bytes g.at)) (length g.next)) (ap (λ (n : List ℕ). p ++ (bytes g.at ++ n)) (sym (append-nil (bytes g.next))) ∙ sym (append_assoc p (bytes g.at) (bytes g.next ++ [])))
    ∙ words-bytes (p ++ bytes g.at) g.next [] in
    λ i. record { events = e i; outer = o i; at = at i; next = next i }
