-- Every test tried by computing, with the proof of what it answers; so a number given, an allowed report and a verdict are shown by one computed test.
-- Assumes nothing.
use mathlib.Core.Path.{◌≡◌, refl, sym, subst}
use mathlib.Core.Logic.{◌≢◌, ◌⊎◌, inl, inr}
use mathlib.Core.Bool.{Bool, false, not, ◌&&◌}
use mathlib.Core.List.{List, [], ◌∷◌, ◌++◌}
use mathlib.Core.Option.{Option, none, some}
use Prim.Native.Nat.{ℕ, ◌+◌}
use native.Mathlib.Omega.{arith}
use lib.Dec.{T, eqb, eqb→eq, T_not}
use lib.ListN.{length, drop}
use Rattle.drawing.specs.Drawing.{Drawing, darts, arrows, event, tail, head, faces, changes}
use Rattle.drawing.proofs.Deciders.{rings?, circle?, labelling?, cut?, known, joined?, joined_law, parted?, parted_law, levels, climb?, climb_law}
use Rattle.drawing.proofs.Apart.{labelling_no_cut}
use Rattle.finite.proofs.Decide.{is_yes, is_yes_lem, both_left, both_right, map?, ◌×?◌, ◌⊎?◌, ¬?, T?, cond?, eq?, le?, lt?, all?, same?, lowest_first?}
use Rattle.rules.specs.Chart.{drawing}
use Rattle.rules.specs.Tests.{Test, number, Passes, Given, tests, faults}
use Rattle.rules.specs.Tests.{short, mark, version, counts, size, unknown, own, outer, order, parted, crossing, mixing, circle, no_room}
use Rattle.rules.specs.Report.{Form, good, bad, Entries, Outcome, report, result_in}
use Rattle.rules.specs.Judge.{Verdict, chart, J, fits, Either, Deserves, Judged}
use Rattle.rules.proofs.Bytes.{darts_even}

-- ---- entries and verdicts

unfoldable pub entries? : (g : Drawing) (n : ℕ) (l : List ℕ) → Dec (Entries g n l)
unfolding circle? labelling? cut?
entries? g n l =
    cond? (eqb n 0) (labelling? g l)
    (cond? (eqb n 12) (same? l _)
    (cond? (eqb n 13) (circle? g l ×? lowest_first? l)
    (cond? (eqb n 14) (cut? g l) (same? l _))))

abbrev pub either? : {P : Type 0} → Dec P → (a b j : ℕ) → Dec (Either P a b j)
either? d a b j = (d ×? eq? j a) ⊎? (¬? d ×? eq? j b)

unfoldable pub deserves? : (g : Drawing) (r : List ℕ) (j : ℕ) → Dec (Deserves g r j)
unfolding labelling? cut?
deserves? g r j =
    cond? (fits g r)
    (cond? (eqb (result_in r) 0) (either? (labelling? g _) _ _ j) (either? (cut? g _) _ _ j))
    (eq? j _)

-- ---- what the reader answers

pub good_eq : {m n k l : ℕ} → (m ≡ k) × (n ≡ l) → good m n ≡ good k l
good_eq {m} {n} {k} {l} h = let p : m ≡ k = h.0 in let q : n ≡ l = h.1 in cc

pub eq_good : {m n k l : ℕ} → good m n ≡ good k l → (m ≡ k) × (n ≡ l)
eq_good p = (cc, cc)

pub good≢bad : {m n : ℕ} → good m n ≢ bad
good≢bad p = let z : ◌≡◌ {A = ℕ} 0 1 = cc in omega arith

unfoldable pub form? : (f g : Form) → Dec (f ≡ g)
unfolding eq?
form? (good m n) (good k l) = map? good_eq eq_good (eq? m k ×? eq? n l)
form? (good m n) bad = no good≢bad
form? bad (good m n) = no (λ p. good≢bad (sym p))
form? bad bad = yes refl

-- ---- one test, tried by computing, with a list that may show it: a labelling, a circle, a cut

-- what shows P, or else what refutes it, or nothing
abbrev settle : {P A B : Type 0} → (A → P) → (B → ¬ P) → Dec A → Dec B → Option (Dec P)
settle f g (yes a) d = some (yes (f a))
settle f g (no h) (yes b) = some (no (g b))
settle f g (no h) (no k) = none

-- the first test that fails, with what shows it
abbrev next : {P : Type 0} {Q : ℕ → Type 0} (k : ℕ) → Option (Dec P) → Option ((n : ℕ) × Q n) → Option ((n : ℕ) × ((¬ P × (n ≡ k)) ⊎ (P × Q n)))
next k none rest = none
next k (some (no h)) rest = some (k, inl (h, refl))
next k (some (yes p)) none = none
next k (some (yes p)) (some q) = some (q.0, inr (p, q.1))

abbrev says : {P : ℕ → Type 0} → Option ((n : ℕ) × P n) → ℕ → Bool
says none n = false
says (some q) n = eqb q.0 n

says_law : {P : ℕ → Type 0} (o : Option ((n : ℕ) × P n)) (n : ℕ) → T (says o n) → P n
says_law none n t = absurd t
says_law {P} (some q) n t = subst P (eqb→eq q.0 n t) q.1

-- a chart has the number n, with r bytes of report lent, and l are allowed entries
pub record Right (s : List ℕ) (r n : ℕ) (l : List ℕ) : Type 0 where
  pub number_given : Given tests s r n
  pub allowed : Entries (drawing s) n l

pub outcome : (s r : List ℕ) (n : ℕ) (l : List ℕ) → Right s (length r) n l → Outcome s r n (length (report n l)) (report n l ++ drop (length (report n l)) r)
outcome s r n l h = record {
  given = h.number_given;
  entries = l;
  allowed = h.allowed;
  written = refl;
  left = refl;
}

tried : (t : Test) (s : List ℕ) (r : ℕ) (l : List ℕ) → Option (Dec (Passes t s r))
unfolding le? eq? all? rings? circle? labelling? cut? known joined? parted? levels
tried short s r l = some (le? _ _)
tried mark s r l = some (le? _ _ ×? same? _ _)
tried version s r l = some (eq? _ _)
tried counts s r l =
    some (map? (λ h. (h.0, h.1.0, h.1.1.0, h.1.1.1)) (λ h. (h.0, (h.1, (h.2, h.3))))
    (le? _ _ ×? le? _ _ ×? le? _ _ ×? le? _ _))
tried size s r l = some (eq? _ _)
tried unknown s r l = some (all? (darts (drawing s)) _ (λ d. lt? (event (drawing s) d) (drawing s).events))
tried own s r l = some (all? (arrows (drawing s)) _ (λ a. ¬? (eq? (tail (drawing s) a) (head (drawing s) a))))
tried outer s r l = some (lt? (drawing s).outer (darts (drawing s)))
tried order s r l = some (rings? (drawing s))
tried parted s r l =
    let g = drawing s in
    let k = known g g.events in
    settle (λ a. joined_law g k a) (λ b. parted_law g k b) (T? (is_yes (joined? g k))) (T? (is_yes (parted? g k)))
tried crossing s r l = some (eq? ((drawing s).events + faces (drawing s)) (arrows (drawing s) + 2))
tried mixing s r l = some (all? (drawing s).events _ (λ v. le? (changes (drawing s) v) 2))
tried circle s r l =
    let g = drawing s in
    let m = levels g g.events in
    settle (λ a. climb_law g m a) (λ c f. f l c) (T? (is_yes (climb? g m))) (circle? g l)
tried no_room s r l =
    let g = drawing s in
    settle (λ a. (l, a)) (λ c p. labelling_no_cut g (darts_even s) c.0 p.0 l p.1 c.1) (labelling? g l) (rings? g ×? cut? g l)

given : (ts : List Test) (s : List ℕ) (r : ℕ) (l : List ℕ) → Option ((n : ℕ) × Given ts s r n)
unfolding tried
given [] s r l = some (0, refl)
given (t ∷ ts) s r l = let rest = given ts s r l in next (number t) (tried t s r l) rest

unfoldable pub right : List ℕ → (r n : ℕ) → List ℕ → Bool
unfolding given entries?
right s r n l = says (given tests s r l) n && is_yes (entries? (drawing s) n l)

pub right_law : (s : List ℕ) (r n : ℕ) (l : List ℕ) → T (right s r n l) → Right s r n l
unfolding right
right_law s r n l t =
    let a = says (given tests s r l) n in
    let d = entries? (drawing s) n l in
    record { number_given = says_law (given tests s r l) n (both_left a (is_yes d) t); allowed = is_yes_lem d (both_right a (is_yes d) t) }

-- the judge, on the chart s and the report r; l may show a circle
unfoldable pub fair : List ℕ → List ℕ → List ℕ → Verdict → Bool
unfolding given deserves?
fair s r l (chart n) = says (given faults s 0 l) n && not (eqb n 0)
fair s r l (J j) = says (given faults s 0 l) 0 && is_yes (deserves? (drawing s) r j)

pub fair_law : (s r l : List ℕ) (v : Verdict) → T (fair s r l v) → Judged s r v
unfolding fair
fair_law s r l (chart n) t =
    let a = says (given faults s 0 l) n in
    inl (n, (λ e. T_not (eqb n 0) (both_right a (not (eqb n 0)) t) (rw e tt)), says_law (given faults s 0 l) n (both_left a (not (eqb n 0)) t), refl)
fair_law s r l (J j) t =
    let a = says (given faults s 0 l) 0 in
    let d = deserves? (drawing s) r j in
    inr (j, says_law (given faults s 0 l) 0 (both_left a (is_yes d) t), is_yes_lem d (both_right a (is_yes d) t), refl)
