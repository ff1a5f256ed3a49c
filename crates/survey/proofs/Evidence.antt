-- What the evidence of tests 12 and 13 shows, and the darts that were picked. Assumes nothing.
use mathlib.Core.Path.{◌≡◌, refl, sym, ap, ◌∙◌}
use mathlib.Core.Bool.{Bool, true, false}
use mathlib.Core.List.{List, [], ◌∷◌}
use Prim.Native.Nat.{ℕ, ◌<◌, ◌≤◌}
use native.Mathlib.Omega.{arith}
use borrow.Author.Tests.{ltb-true}
use lib.Dec.{ltb}
use lib.ListN.{length, take, set}
use lib.Seq.{take-suc-set}
use Rattle.finite.proofs.Lists.{below_none}
use Rattle.drawing.specs.Drawing.{Drawing, event, changes, mixed, mixed_events}
use Rattle.drawing.specs.Conditions.{EventsKnown, NoneMixed, Joined}
use Rattle.rules.specs.Chart.{drawing}
use Rattle.rules.proofs.Bytes.{darts_even}
use Rattle.chart.specs.Shape.{Shape}
use Rattle.chart.specs.Held.{Firsts}
use Rattle.rings.specs.Joining.{Marked, Met}
use Rattle.rings.proofs.Near.{joined_from}

-- a mixed event is listed only if there is one
pub some_mixed : (g : Drawing) (m : ℕ) → take 1 (mixed_events g) ≡ m ∷ [] → ¬ NoneMixed g
unfolding mixed_events
some_mixed g m e none =
    let z : mixed_events g ≡ [] = below_none g.events (mixed g) (λ v l. not-mixed v (none v l) (mixed g v) refl) in
    let q : ◌≡◌ {A = List ℕ} [] (m ∷ []) = sym (ap (take 1) z) ∙ e in
    absurd (let o : ◌≡◌ {A = ℕ} 0 1 = cc in omega arith)
  where
    not-mixed : (v : ℕ) → changes g v ≤ 2 → (b : Bool) → ltb 2 (changes g v) ≡ b → b ≡ false
    not-mixed v l true q = absurd (omega (arith, ltb-true 2 (changes g v) q))
    not-mixed v l false q = refl

pub first_set : (l : List ℕ) (m : ℕ) → 0 < length l → take 1 (set l 0 m) ≡ m ∷ []
first_set l m h = take-suc-set l 0 m h

-- where the arrows join all events each is joined with dart 0's, and so has a dart
pub firsts : (s : List ℕ) (n : ℕ) → Shape s n → EventsKnown (drawing s) → Joined (drawing s) → (first : List ℕ) → Met (drawing s) first → Firsts (drawing s) first
firsts s n S E joined first M = record { size = M.size; inside = λ v l. (M.own v l (marked v l)).0; each = λ v l. (M.own v l (marked v l)).1 }
  where
    marked : (v : ℕ) → v < (drawing s).events → Marked first v
    marked v l =
        let known : event (drawing s) 0 < (drawing s).events = E 0 (omega (arith, S.darts, S.some)) in
        M.each v l (joined_from (drawing s) (darts_even s) (event (drawing s) 0) known joined v l)
