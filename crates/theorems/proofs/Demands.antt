-- The three demands hold of every run of the test and of every verdict of the judge. Assumes nothing.
--   demand_1, demand_2      of every outcome of the test
--   demand_3                of every chart past test 13
use mathlib.Core.Path.{◌≡◌, refl, sym, ap, subst, ◌∙◌}
use mathlib.Core.Logic.{◌≢◌, ◌⊎◌, inl, inr}
use mathlib.Core.List.{List, [], ◌∷◌, ◌++◌}
use Prim.Native.Nat.{ℕ, ◌≤◌}
use native.Mathlib.Omega.{arith}
use lib.ListN.{length, take, drop}
use lib.Seq.{drop_at}
use Rattle.drawing.specs.Conditions.{Labelling}
use Rattle.rules.specs.Chart.{drawing}
use Rattle.rules.specs.Tests.{Test, number, Passes, Given, tests, faults, report_room, short, mark, version, counts, size, unknown, own, outer, order, parted, crossing, mixing, circle, no_room}
use Rattle.rules.specs.Report.{Entries, Outcome, report, entries}
use Rattle.rules.specs.Judge.{Verdict, J, Judged}
use Rattle.rules.proofs.Chain.{given_first, given_parts}
use Rattle.rules.proofs.Unique.{given_unique, outcome_unique}
use Rattle.report.proofs.Laws.{writes-none}
use Rattle.report.proofs.Round.{labels-entries}
use Rattle.lines.proofs.Tested.{outcome_stretch}
use Rattle.theorems.specs.Demands.{Demand1, Acceptable, Demand2, Demand3}
use Rattle.theorems.proofs.Numbers.{given_exactly, none_exactly, faults_pass}
use Rattle.theorems.proofs.Confirmed.{yes_exactly, no_exactly, yes_written, no_written, some_confirmed, never_both}

-- past the first tests, the others give the number
given_rest : (ts us : List Test) (s : List ℕ) (r n : ℕ) → Given ts s r 0 → Given (ts ++ us) s r n → Given us s r n
given_rest [] us s r n g h = h
given_rest (t ∷ ts) us s r n g (inl h) = absurd (h.0 (given_first t ts s r g).0)
given_rest (t ∷ ts) us s r n g (inr h) = given_rest ts us s r n (given_first t ts s r g).1 h.1

module _ (s r : List ℕ) (n w : ℕ) (r' : List ℕ) (O : Outcome s r n w r') where
  -- ---- demand 1

  -- the number that the definitions give is the answer
  number_is : (m : ℕ) → Given tests s (length r) m → n ≡ m
  number_is m = given_unique tests s (length r) n m O.given

  given_is : (m : ℕ) → n ≡ m → Given tests s (length r) m
  given_is m e = subst (Given tests s (length r)) e O.given

  nothing : n ≢ 0 → n ≤ 11 → report n O.entries ≡ []
  unfolding report
  nothing z h = simp (writes-none n z (omega arith))

  pub demand_1 : Demand1 s r n w r'
  demand_1 = record {
    silent = λ a b.
        let e = nothing (λ z. omega arith) b in
        let z : w ≡ 0 = O.written ∙ ap length e in
        (z, O.left ∙ ap (λ (x : List ℕ). x ++ drop w r) e ∙ ap (λ (k : ℕ). drop k r) z);
    laid = (O.entries, O.allowed, outcome_stretch s r n w r' O);
    beyond = ap (drop w) O.left ∙ drop_at (report n O.entries) (drop w r) w (sym O.written);
    refused = λ t. (λ e. (given_exactly s (length r) t).0 (given_is (number t) e), λ R. number_is (number t) ((given_exactly s (length r) t).1 R));
    passed = (λ e. (none_exactly s (length r)).0 (given_is 0 e), λ p. number_is 0 ((none_exactly s (length r)).1 p));
    one = λ m v r'' Q. (outcome_unique s r n w m v r' r'' O Q).0;
  }

  -- ---- demand 2

  acceptable : n ≡ 0 → Acceptable s
  acceptable e =
      let g = (given_first short (drop 1 tests) s (length r) (given_is 0 e)).1 in
      let h = given_parts faults (no_room ∷ []) s 0 g in
      let p = faults_pass s h.0 in
      record {
        formed = λ t a b. p t a (omega arith);
        connected = p parted (omega arith) (omega arith);
        uncrossed = p crossing (omega arith) (omega arith);
        free = p circle (omega arith) (omega arith);
        unmixed = p mixing (omega arith) (omega arith);
        labelled = (given_first no_room [] s 0 h.1).0;
      }

  passes : report_room ≤ length r → Acceptable s → (t : Test) → Passes t s (length r)
  passes l A short = l
  passes l A mark = A.formed mark (omega arith) (omega arith)
  passes l A version = A.formed version (omega arith) (omega arith)
  passes l A counts = A.formed counts (omega arith) (omega arith)
  passes l A size = A.formed size (omega arith) (omega arith)
  passes l A unknown = A.formed unknown (omega arith) (omega arith)
  passes l A own = A.formed own (omega arith) (omega arith)
  passes l A outer = A.formed outer (omega arith) (omega arith)
  passes l A order = A.formed order (omega arith) (omega arith)
  passes l A parted = A.connected
  passes l A crossing = A.uncrossed
  passes l A mixing = A.unmixed
  passes l A circle = A.free
  passes l A no_room = A.labelled

  -- the entries for the number that was given
  at_number : (m : ℕ) → n ≡ m → Entries (drawing s) m O.entries × (take w r' ≡ report m O.entries)
  at_number m e = (
    subst (λ (k : ℕ). Entries (drawing s) k O.entries) e O.allowed,
    outcome_stretch s r n w r' O ∙ ap (λ (k : ℕ). report k O.entries) e,
  )

  pub demand_2 : Demand2 s r n w r'
  demand_2 = record {
    accepted = λ l. (acceptable, λ A. number_is 0 ((none_exactly s (length r)).1 (passes l A)));
    shown = λ e. let h = at_number 0 e in subst (Labelling (drawing s)) (sym (ap entries h.1 ∙ labels-entries O.entries)) h.0;
  }

  -- ---- demand 3: our own report

  pub own_confirmed : report_room ≤ length r → Given faults s 0 0 → (v : Verdict) → Judged s (take w r') v → (v ≡ J 0) ⊎ (v ≡ J 1)
  own_confirmed l g v j = go (given_rest faults (no_room ∷ []) s (length r) n g (given_rest (short ∷ []) (faults ++ (no_room ∷ [])) s (length r) n (inr (l, refl)) O.given))
    where
      go : Given (no_room ∷ []) s (length r) n → (v ≡ J 0) ⊎ (v ≡ J 1)
      go (inl h) =
          let e = at_number 14 h.1 in
          inr ((no_exactly s (take w r') g v j).1 (rw e.1 (no_written (drawing s) O.entries e.0)))
      go (inr h) =
          let e = at_number 0 h.1 in
          inl ((yes_exactly s (take w r') g v j).1 (rw e.1 (yes_written (drawing s) O.entries e.0)))

pub demand_3 : (s : List ℕ) → Given faults s 0 0 → Demand3 s
demand_3 s g = record {
  yes_exactly = λ r v j. yes_exactly s r g v j;
  no_exactly = λ r v j. no_exactly s r g v j;
  some = some_confirmed s g;
  never_both = never_both s;
  own = λ r n w r' v O l j. own_confirmed s r n w r' O l g v j;
}
