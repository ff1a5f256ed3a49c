-- The words of a result, where its number is known. Assumes nothing.
use mathlib.Core.Path.{◌≡◌, sym, ap}
use mathlib.Core.Logic.{◌≢◌}
use Prim.Native.Nat.{ℕ, ◌≤◌, ◌<◌}
use native.Mathlib.Omega.{arith}
use lib.ListN.{length}
use Rattle.finite.proofs.Decide.{is_yes_lem, all?, le?}
use Rattle.rules.specs.Listing.{saying, ascii}

pub words_at : {n : ℕ} (k : ℕ) → n ≡ k → saying k ≡ saying n
words_at k e = sym (ap saying e)

-- the longest words are `unknown event`
pub saying_short : (n : ℕ) → n < 15 → length (saying n) ≤ 13
unfolding saying ascii all? le?
saying_short = is_yes_lem (all? 15 (λ n. length (saying n) ≤ 13) (λ n. le? (length (saying n)) 13)) tt

-- the numbers that a `match` leaves
pub of_file : {n : ℕ} → n ≢ 0 → n ≢ 1 → n < 9 → (2 ≤ n) × (n ≤ 8)
of_file a b l = (omega arith, omega arith)

pub fourteen : {n : ℕ} → 9 ≤ n → n ≤ 14 → n ≢ 9 → n ≢ 10 → n ≢ 11 → n ≢ 12 → n ≢ 13 → n ≡ 14
fourteen l h a b c d e = omega arith
