-- The reader's two answers are one for each report. Assumes nothing.
--   form_unique      two answers about the form of one report are the same
--   body_unique      two parts handed back of one report have the same bytes and the same place
use mathlib.Core.Path.{◌≡◌, refl, sym, ap₂, ◌∙◌}
use mathlib.Core.List.{List}
use Prim.Native.Nat.{ℕ}
use Rattle.std.proofs.Common.{Option, Some, None}
use Rattle.rules.specs.Report.{form, body}
use Rattle.report.specs.Headers.{formed, body_place}
use Rattle.report.specs.declared.Header.{Header}

-- what an answer says is said by no other
formed_one : (a b : Option Header) → formed a ≡ formed b → a ≡ b
formed_one (Some h) (Some k) e =
    let result : h.result ≡ k.result = cc in
    let count : h.count ≡ k.count = cc in
    ap₂ (λ (r c : ℕ). Some (record { result = r; count = c })) result count
formed_one (Some h) None e = cc
formed_one None (Some k) e = cc
formed_one None None e = refl

pub form_unique : (s : List ℕ) (a b : Option Header) → formed a ≡ form s → formed b ≡ form s → a ≡ b
form_unique s a b p q = formed_one a b (p ∙ sym q)

-- the report s starts at p; the parts have the bytes x and y, and start at a and b
pub body_unique : (p : ℕ × ℕ) (s x y : List ℕ) (a b : ℕ × ℕ)
    → (x ≡ body s) × (a ≡ body_place p s) → (y ≡ body s) × (b ≡ body_place p s) → (x ≡ y) × (a ≡ b)
body_unique p s x y a b h k = (h.0 ∙ sym k.0, h.1 ∙ sym k.1)
