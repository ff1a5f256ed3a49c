-- What a bool that says a statement gives, where it is known. Assumes nothing.
use mathlib.Core.Path.{◌≡◌, refl, subst}
use mathlib.Core.Bool.{Bool, true, false, not}
use Prim.Native.Nat.{ℕ, ◌<◌}
use borrow.Author.Tests.{not-true, not-false, eqb-true, eqb-false, ltb-true, ltb-false}
use lib.Dec.{eqb, ltb}
use native.Mathlib.Omega.{arith}
use Rattle.finite.specs.Says.{Says}

pub says_yes : {P : Type 0} {b : Bool} → b ≡ true → Says b P → P
says_yes {P} e s = subst (λ (b : Bool). Says b P) e s

pub says_no : {P : Type 0} {b : Bool} → b ≡ false → Says b P → P → ⊥
says_no {P} e s = subst (λ (b : Bool). Says b P) e s

-- the same for an equivalent statement
pub says_as : {P Q : Type 0} (b : Bool) → (P → Q) → (Q → P) → Says b P → Says b Q
says_as true f g s = f s
says_as false f g s = λ q. s (g q)

-- where the code tests `!b`
pub says_unless : {P : Type 0} (b : Bool) → not b ≡ true → Says b P → P → ⊥
says_unless b e s = says_no (not-true b e) s

pub says_still : {P : Type 0} (b : Bool) → not b ≡ false → Says b P → P
says_still b e s = says_yes (not-false b e) s

-- the tests of two numbers say what they seem to
pub says_equal : (a b : ℕ) → Says (eqb a b) (a ≡ b)
says_equal a b = go (eqb a b) refl
  where
    go : (r : Bool) → eqb a b ≡ r → Says r (a ≡ b)
    go true q = eqb-true a b q
    go false q = eqb-false a b q

pub says_lt : (a b : ℕ) → Says (ltb a b) (a < b)
says_lt a b = go (ltb a b) refl
  where
    go : (r : Bool) → ltb a b ≡ r → Says r (a < b)
    go true q = ltb-true a b q
    go false q = λ l. omega (arith, ltb-false a b q)
