-- The kind of lines that follow the first. Assumes nothing.
use Rattle.std.specs.Prelude.{◌≡◌, ◌⊎◌, ℕ, ◌≤◌}
use Rattle.lines.specs.declared.Kind.{Kind}
use Rattle.lines.specs.declared.Kind.TheVariants.{Corners, Events, Arrows, Nothing}

-- the result that has each kind: "for 0 one line for each source or sink ..; for 12 and 14 a line `event n`; for 13 a line `arrow n`"
abbrev pub Follows : Kind → ℕ → Type 0
Follows Corners n = n ≡ 0
Follows Events n = (n ≡ 12) ⊎ (n ≡ 14)
Follows Arrows n = n ≡ 13
Follows Nothing n = (1 ≤ n) × (n ≤ 11)
