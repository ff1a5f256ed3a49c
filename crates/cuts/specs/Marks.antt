-- A list of events held against a table that has 1 at the sources and sinks, which are marked with 2 there. Assumes nothing.
--   Flags p          no entry of the table p is above 1
--   Fit p l          the list l ascends, and the table has 1 at each of its entries
--   Marked l q       the table q has 2 exactly at the entries of l
--   Fitted r p l q   what the check of l against p answers, and what it leaves of p
use Rattle.std.specs.Prelude.{◌≡◌, Bool, true, false, List, ℕ, ◌<◌, ◌≤◌, length}
use Rattle.finite.specs.Lists.{All, Ascending}
use Rattle.words.specs.Tables.{nth}

abbrev pub Flags : List ℕ → Type 0
Flags p = (v : ℕ) → v < length p → nth p v ≤ 1

pub record Fit (p l : List ℕ) : Type 0 where
  pub ascending : Ascending l
  pub ones : All (λ v. (v < length p) × (nth p v ≡ 1)) l

pub record Marked (l q : List ℕ) : Type 0 where
  pub all : All (λ v. nth q v ≡ 2) l
  pub only : (v : ℕ) → v < length q → nth q v ≡ 2 → (i : ℕ) × (i < length l) × (nth l i ≡ v)

abbrev pub Fitted : Bool → List ℕ → List ℕ → List ℕ → Type 0
Fitted true p l q = Fit p l × Marked l q
Fitted false p l q = Fit p l → ⊥
