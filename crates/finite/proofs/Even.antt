-- Along an injective map that keeps a weight, the colour changes an even number of times. Assumes nothing.
use mathlib.Core.Path.{◌≡◌, sym, ap, ◌∙◌}
use Prim.Native.Nat.{ℕ, ◌+◌, ◌*◌, ◌<◌, ◌%◌, ◌/◌}
use native.Mathlib.Omega.{arith}
use Rattle.finite.specs.Sums.{sum}
use Rattle.finite.specs.Steps.{Into, Inj}
use Rattle.finite.proofs.Sum.{sum_cong, sum-mul, sum-add}
use Rattle.finite.proofs.Perm.{reindex}

-- 0 leaves, 1 enters
abbrev pub colour : ℕ → ℕ
colour d = d % 2

-- 1 where the colours differ, else 0
abbrev pub differs : ℕ → ℕ → ℕ
differs d e = (colour d + colour e) % 2

-- any weight S, so in particular a 0-1 set
pub even_changes : (n : ℕ) (p : ℕ → ℕ) → Inj n p → Into n n p → (S : ℕ → ℕ) → ((d : ℕ) → d < n → S (p d) ≡ S d)
    → sum n (λ d. S d * differs d (p d)) % 2 ≡ 0
even_changes n p inj into S keeps =
    let half : ℕ → ℕ = λ d. S d * ((colour d + colour (p d)) / 2) in
    let here : ℕ → ℕ = λ d. S d * colour d in
    let each : (d : ℕ) → d < n → S d * differs d (p d) + 2 * half d ≡ here d + here (p d) =
    λ d l. rw (keeps d l) (omega (arith, split (S d) (colour d) (colour (p d)))) in
    let sums : sum n (λ d. S d * differs d (p d) + 2 * half d) ≡ sum n (λ d. here d + here (p d)) =
    sum_cong n (λ d. S d * differs d (p d) + 2 * half d) (λ d. here d + here (p d)) each in
    let t : sum n (λ d. S d * differs d (p d)) + 2 * sum n half ≡ sum n here + sum n here =
    ap (λ (x : ℕ). sum n (λ d. S d * differs d (p d)) + x) (sym (sum-mul n 2 half))
    ∙ sym (sum-add n (λ d. S d * differs d (p d)) (λ d. 2 * half d)) ∙ sums
    ∙ sum-add n here (λ d. here (p d)) ∙ ap (λ (x : ℕ). sum n here + x) (reindex n p inj into here) in
    omega arith
  where
    split : (s a b : ℕ) → s * ((a + b) % 2) + 2 * (s * ((a + b) / 2)) ≡ s * a + s * b
    split s a b = omega (arith, ap (λ (x : ℕ). s * x) halves)
      where
        halves : (a + b) % 2 + 2 * ((a + b) / 2) ≡ a + b
        halves = omega arith
