-- A circle from arrows that are numbered from its end. Assumes nothing.
--   back y n         the list y (n - 1), .., y 0
--   back_all         what each of y 0 .. y (n - 1) has, the list has
--   back_distinct    none twice
--   back_runs        arrows that run from e n to e 0, by events e (n - 1), .., e 1
--   back_circle      they make a circle where e n is e 0
use mathlib.Core.Path.{◌≡◌, refl, sym, subst, ◌∙◌}
use mathlib.Core.Logic.{◌≢◌}
use mathlib.Core.List.{List, [], ◌∷◌}
use Prim.Native.Nat.{ℕ, zero, suc, ◌<◌}
use native.Mathlib.Omega.{arith}
use Rattle.finite.specs.Steps.{Into, Inj}
use Rattle.finite.specs.Lists.{All, Distinct}
use Rattle.drawing.specs.Drawing.{Drawing, arrows, tail, head}
use Rattle.drawing.specs.Conditions.{Runs, Circle}

abbrev pub back : (ℕ → ℕ) → ℕ → List ℕ
back y zero = []
back y (suc n) = y n ∷ back y n

pub back_all : (P : ℕ → Type 0) (y : ℕ → ℕ) (n : ℕ) → ((k : ℕ) → k < n → P (y k)) → All P (back y n)
back_all P y zero h = tt
back_all P y (suc n) h = (h n (omega arith), back_all P y n (λ k l. h k (omega arith)))

pub back_distinct : (y : ℕ → ℕ) (n : ℕ) → Inj n y → Distinct (back y n)
back_distinct y zero inj = tt
back_distinct y (suc n) inj = (
  back_all (λ z. y n ≢ z) y n (λ k l e. let q : n ≡ k = inj n k (omega arith) (omega arith) e in omega arith),
  back_distinct y n (λ i j k l. inj i j (omega arith) (omega arith)),
)

module _ (g : Drawing) (y e : ℕ → ℕ) where
  pub back_runs : (n : ℕ) → Into n (arrows g) y → ((k : ℕ) → k < n → tail g (y k) ≡ e (suc k)) → ((k : ℕ) → k < n → head g (y k) ≡ e k)
      → Runs g (e n) (back y n) (e 0)
  back_runs zero into tails heads = refl
  back_runs (suc n) into tails heads = (
    into n (omega arith),
    tails n (omega arith),
    subst (λ (u : ℕ). Runs g u (back y n) (e 0)) (sym (heads n (omega arith)))
        (back_runs n (λ k l. into k (omega arith)) (λ k l. tails k (omega arith)) (λ k l. heads k (omega arith))),
  )

  pub back_circle : (m : ℕ) → 0 < m → Into m (arrows g) y → Inj m y → ((k : ℕ) → k < m → tail g (y k) ≡ e (suc k)) → ((k : ℕ) → k < m → head g (y k) ≡ e k)
      → e m ≡ e 0 → Circle g (back y m)
  back_circle zero some into inj tails heads closes = absurd (omega arith)
  back_circle (suc m) some into inj tails heads closes =
      let first : tail g (y m) ≡ e (suc m) = tails m (omega arith) in
      record {
        distinct = back_distinct y (suc m) inj;
        round =
            subst (λ (u : ℕ). Runs g u (y m ∷ back y m) (tail g (y m))) (sym first)
            (subst (λ (v : ℕ). Runs g (e (suc m)) (y m ∷ back y m) v) (sym (first ∙ closes)) (back_runs (suc m) into tails heads));
      }
