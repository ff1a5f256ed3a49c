-- A test's number is given exactly if it fails and every test with a lower number passes; 0 exactly if all pass. Assumes nothing.
--   given_exactly, none_exactly      of all the tests
--   faults_pass                      a chart past test 13 passes each of the tests 2 to 13
use mathlib.Core.Path.{◌≡◌, refl, sym, ap, subst, ◌∙◌}
use mathlib.Core.Logic.{◌↔◌, inl, inr}
use mathlib.Core.List.{List, [], ◌∷◌}
use Prim.Native.Nat.{ℕ, suc, ◌+◌, ◌-◌, ◌≤◌, ◌<◌}
use native.Mathlib.Decide.{ℕ_discrete, dec_le}
use native.Mathlib.Omega.{arith}
use lib.ListN.{length, get_or, get_or-eq_default}
use Rattle.rules.specs.Tests.{Test, number, Passes, Given, tests, faults, short, mark, version, counts, size, unknown, own, outer, order, parted, crossing, mixing, circle, no_room}
use Rattle.rules.proofs.Chain.{number_some, given_first}
use Rattle.theorems.specs.Demands.{Refuses}

-- ---- no two tests have one number, and these are 1 to 14

at_number : (t : Test) → get_or tests (number t - 1) short ≡ t
at_number short = refl
at_number mark = refl
at_number version = refl
at_number counts = refl
at_number size = refl
at_number unknown = refl
at_number own = refl
at_number outer = refl
at_number order = refl
at_number parted = refl
at_number crossing = refl
at_number mixing = refl
at_number circle = refl
at_number no_room = refl

number_same : (t u : Test) → number t ≡ number u → t ≡ u
number_same t u e = sym (at_number t) ∙ ap (λ (k : ℕ). get_or tests (k - 1) short) e ∙ at_number u

number_low : (t : Test) → 1 ≤ number t
number_low t = elim (ℕ_discrete (number t) 0) [ yes e ↦ absurd (number_some t e) | no d ↦ omega arith ]

number_high : (t : Test) → number t ≤ 14
number_high t =
    elim (dec_le (number t) 14) [
      | yes l ↦ l
      | no d ↦
          let e : t ≡ short = sym (at_number t) ∙ get_or-eq_default tests short {n = number t - 1} (omega arith) in
          absurd (d (omega (arith, ap number e)))
    ]

-- ---- tests whose numbers go up by one, from k

abbrev Rising : ℕ → List Test → Type 0
Rising k [] = Unit {0}
Rising k (t ∷ ts) = (number t ≡ k) × Rising (suc k) ts

rising_tests : Rising 1 tests
rising_tests = (refl, (refl, (refl, (refl, (refl, (refl, (refl, (refl, (refl, (refl, (refl, (refl, (refl, (refl, tt))))))))))))))

module _ (s : List ℕ) (r : ℕ) where
  passes_same : (t u : Test) → number t ≡ number u → Passes t s r → Passes u s r
  passes_same t u e p = subst (λ (x : Test). Passes x s r) (number_same t u e) p

  all_pass : (ts : List Test) (k : ℕ) → Rising k ts → Given ts s r 0 → (t : Test) → k ≤ number t → number t < k + length ts → Passes t s r
  all_pass [] k R g t a b = absurd (omega arith)
  all_pass (u ∷ ts) k R g t a b =
      let f = given_first u ts s r g in
      elim (ℕ_discrete (number u) (number t)) [
        | yes e ↦ passes_same u t e f.0
        | no d ↦ all_pass ts (suc k) R.1 f.1 t (omega (arith, R.0)) (omega arith)
      ]

  none_fails : (ts : List Test) → ((t : Test) → Passes t s r) → Given ts s r 0
  none_fails [] p = refl
  none_fails (t ∷ ts) p = inr (p t, none_fails ts p)

  first_fails : (ts : List Test) (k : ℕ) → Rising k ts → (t : Test) → Given ts s r (number t)
      → ((u : Test) → k ≤ number u → number u < number t → Passes u s r) × (¬ Passes t s r)
  first_fails [] k R t g = absurd (number_some t g)
  first_fails (x ∷ ts) k R t (inl g) = (λ u a b. absurd (omega (arith, R.0, g.1)), λ p. g.0 (passes_same t x g.1 p))
  first_fails (x ∷ ts) k R t (inr g) =
      let h = first_fails ts (suc k) R.1 t g.1 in (
        λ u a b. elim (ℕ_discrete (number x) (number u)) [ yes e ↦ passes_same x u e g.0 | no d ↦ h.0 u (omega (arith, R.0)) b ],
        h.1,
      )

  fails_first : (ts : List Test) (k : ℕ) → Rising k ts → (t : Test) → k ≤ number t → number t < k + length ts
      → ((u : Test) → k ≤ number u → number u < number t → Passes u s r) → (¬ Passes t s r) → Given ts s r (number t)
  fails_first [] k R t a b early f = absurd (omega arith)
  fails_first (x ∷ ts) k R t a b early f =
      elim (ℕ_discrete (number t) (number x)) [
        | yes e ↦ inl ((λ p. f (passes_same x t (sym e) p)), e)
        | no d ↦ inr (
          early x (omega (arith, R.0)) (omega (arith, R.0)),
          fails_first ts (suc k) R.1 t (omega (arith, R.0)) (omega arith) (λ u c l. early u (omega arith) l) f,
        )
      ]

  pub given_exactly : (t : Test) → Given tests s r (number t) ↔ Refuses t s r
  given_exactly t = (
    λ g. let h = first_fails tests 1 rising_tests t g in record { earlier = λ u l. h.0 u (number_low u) l; fails = h.1 },
    λ R. fails_first tests 1 rising_tests t (number_low t) (omega (arith, number_high t)) (λ u a l. R.earlier u l) R.fails,
  )

  pub none_exactly : Given tests s r 0 ↔ ((t : Test) → Passes t s r)
  none_exactly = (λ g t. all_pass tests 1 rising_tests g t (number_low t) (omega (arith, number_high t)), none_fails tests)

pub faults_pass : (s : List ℕ) → Given faults s 0 0 → (t : Test) → 2 ≤ number t → number t ≤ 13 → Passes t s 0
faults_pass s g t a b = all_pass s 0 faults 2 (refl, (refl, (refl, (refl, (refl, (refl, (refl, (refl, (refl, (refl, (refl, (refl, tt)))))))))))) g t a (omega arith)
