-- Twins: each dart has one, of the same arrow and the other direction. Assumes nothing.
use mathlib.Core.Path.{◌≡◌, sym, ap, ◌∙◌}
use Prim.Native.Nat.{ℕ, ◌+◌, ◌*◌, ◌/◌, ◌%◌}
use native.Mathlib.Omega.{arith}
use Rattle.finite.specs.Steps.{Into, Inj}
use Rattle.drawing.specs.Drawing.{twin, enters, leaves}

pub twin_into : (n : ℕ) → n % 2 ≡ 0 → Into n n twin
unfolding twin
twin_into n even d l = omega arith

pub twin-twin : (d : ℕ) → twin (twin d) ≡ d
unfolding twin
twin-twin d = omega arith

pub twin_inj : (n : ℕ) → Inj n twin
twin_inj n i j k l e = sym (twin-twin i) ∙ ap twin e ∙ twin-twin j

pub twin-enters : (d : ℕ) → enters (twin d) ≡ leaves d
unfolding twin
twin-enters d = omega arith

-- a dart by its arrow
pub even_dart : (x : ℕ) → enters x ≡ 0 → (2 * (x / 2) ≡ x) × (2 * (x / 2) + 1 ≡ twin x)
unfolding twin
even_dart x h = omega arith

pub odd_dart : (x : ℕ) → enters x ≡ 1 → (2 * (x / 2) + 1 ≡ x) × (2 * (x / 2) ≡ twin x)
unfolding twin
odd_dart x h = omega arith
