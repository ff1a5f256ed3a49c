-- The answers are small enough to be packed. Assumes nothing.
use mathlib.Core.Path.{◌≡◌, refl, sym, ap, ◌∙◌}
use mathlib.Core.Logic.{inl, inr}
use mathlib.Core.Bool.{Bool, true, false, cond}
use mathlib.Core.List.{List}
use Prim.Native.Nat.{ℕ, ◌≤◌, ◌<◌}
use native.Mathlib.Decide.{dec_lt}
use native.Mathlib.Omega.{arith}
use lib.Dec.{eqb}
use lib.ListN.{get_or}
use Rattle.drawing.specs.Drawing.{Drawing}
use Rattle.rules.specs.Words.{u16}
use Rattle.drawing.specs.Conditions.{Labelling, Cut}
use Rattle.rules.specs.Chart.{drawing}
use Rattle.rules.specs.Tests.{faults}
use Rattle.rules.specs.Report.{good, bad, form, is_well_formed, result_in, body, entries}
use Rattle.rules.specs.Judge.{Verdict, fits, Either, Deserves, Judged}
use Rattle.report.proofs.Laws.{writes_past}
use Rattle.report.proofs.Good.{form_parts, good_writes}
use Rattle.rules.proofs.Chain.{given_highest}
use Rattle.export.specs.Packed.{pack_body, pack_verdict}

pub good_small : (s : List ℕ) (r c : ℕ) → good r c ≡ form s → ((i : ℕ) → get_or s i 0 < 256) → (r ≤ 14) × (c < 65536)
unfolding u16
good_small s r c e byte = (
  elim (dec_lt 14 r) [
    | yes l ↦ absurd (let q : true ≡ false = sym (good_writes s r c e) ∙ writes_past r l in let z : ◌≡◌ {A = ℕ} 0 1 = cc in omega arith)
    | no l ↦ omega arith
  ],
  omega (arith, (form_parts s r c e).1.1, byte 6, byte 7),
)

-- where the form is bad the body is the empty part at the start
pub bad_body : (s : List ℕ) → bad ≡ form s → 0 ≡ pack_body s
unfolding form body
bad_body s e = go (is_well_formed s) refl
  where
    go : (b : Bool) → is_well_formed s ≡ b → 0 ≡ pack_body s
    go true q = absurd (let h : bad ≡ good (result_in s) (u16 s 6) = e ∙ ap (λ (b : Bool). cond b (good (result_in s) (u16 s 6)) bad) q in let z : ◌≡◌ {A = ℕ} 0 1 = cc in omega arith)
    go false q = rw q refl

either_small : (P : Type 0) (a b j : ℕ) → a ≤ 4 → b ≤ 4 → Either P a b j → j ≤ 4
either_small P a b j h k (inl p) = omega (arith, p.1)
either_small P a b j h k (inr p) = omega (arith, p.1)

pub deserves_small : (g : Drawing) (r : List ℕ) (j : ℕ) → Deserves g r j → j ≤ 4
deserves_small g r j = go (Labelling g (entries r)) (Cut g (entries r)) (fits g r) (eqb (result_in r) 0)
  where
    go : (P Q : Type 0) (a b : Bool) → cond a (cond b (Either P 0 3 j) (Either Q 1 4 j)) (j ≡ 2) → j ≤ 4
    go P Q true true d = either_small P 0 3 j (omega arith) (omega arith) d
    go P Q true false d = either_small Q 1 4 j (omega arith) (omega arith) d
    go P Q false b d = omega arith

pub verdict_small : (s r : List ℕ) (v : Verdict) → Judged s r v → pack_verdict v < 100000
verdict_small s r v (inl p) = omega (arith, ap pack_verdict p.3, given_highest faults s 0 p.0 p.2)
verdict_small s r v (inr p) = omega (arith, ap pack_verdict p.3, deserves_small (drawing s) r p.0 p.2)
