-- A bool that says whether a statement holds. Assumes nothing.
--   Says b P       true says P, false says not P
use Rattle.std.specs.Prelude.{Bool, true, false}

abbrev pub Says : Bool → Type 0 → Type 0
Says true P = P
Says false P = P → ⊥
