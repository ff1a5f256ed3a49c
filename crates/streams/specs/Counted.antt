-- Counts and places of bytes within what was lent. Assumes nothing.
--   Within at r n          the bytes that came, from the place at on, lie within n
--   end_of_chart s at      the end of the chart at the place at of s, its length in 16 bits before it; None where s ends before
--   Ends s at e            that is e, and it lies within s, behind the length
use Rattle.std.specs.Prelude.{◌≡◌, cond, List, ℕ, ◌+◌, ◌≤◌, leb, length, Option, Some, None, IfSome, Result, IfOk}
use Rattle.rules.specs.Words.{u16}

abbrev pub Within : {E : Type 0} → ℕ → Result ℕ E → ℕ → Type 0
Within at r n = IfOk r (λ k. at + k ≤ n)

abbrev pub end_of_chart : List ℕ → ℕ → Option ℕ
end_of_chart s at = cond (leb (at + 2 + u16 s at) (length s)) (Some (at + 2 + u16 s at)) None

pub record Ends (s : List ℕ) (at : ℕ) (e : Option ℕ) : Type 0 where
  pub end : e ≡ end_of_chart s at
  pub within : IfSome e (λ k. (at + 2 ≤ k) × (k ≤ length s))
