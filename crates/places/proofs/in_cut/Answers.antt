-- `places::in_cut` meets its contract. Assumes nothing.
use native.Mathlib.Omega.{arith}
use mathlib.Core.Path.{◌≡◌, sym, ap, ◌∙◌}
use Prim.Native.Nat.{ℕ, ◌<◌, ◌≤◌, min}
use lib.Dec.{ltb}
use Rattle.finite.specs.Says.{Says}
use Rattle.finite.proofs.Yes.{says_as, says_lt}
use Rattle.words.specs.Tables.{nth}
use Rattle.placing.proofs.Writes.{member_self, member-none, member-placed}
use Rattle.places.proofs.in_cut.Goals as goal

listed : (x m : ℕ) → m ≡ min 1 x → Says (ltb 0 x) (1 ≤ m)
listed x m e = says_as {P = 0 < x} {Q = 1 ≤ m} _ (λ h. omega arith) (λ h. omega arith) (says_lt 0 x)

nowhere : (c n m : ℕ) → n ≤ c → m ≡ 0 → Says (ltb c n) (1 ≤ m)
nowhere c n m l e = says_as {P = c < n} {Q = 1 ≤ m} _ (λ h. absurd (omega arith)) (λ h. omega arith) (says_lt c n)

pub returns-then-u-v : goal.returns-then-u-v
returns-then-u-v c =
    let a = c.args in
    omega (arith, member_self a.here.now a.large.now a.rank.now a.u a.v c.requires.1.size c.if-u-v.true)

pub returns-then-c-here : goal.returns-then-c-here
returns-then-c-here c =
    let a = c.args in
    let at = c.get-then-c-here.ensures ∙ ap (nth a.rank.now) (c.get.ensures ∙ ap (nth a.here.now) c.get-c.ensures) in
    listed _ _ (member-placed a.here.now a.large.now a.rank.now a.u a.v c.requires.1.size c.if-u-v.false (omega (arith, c.get-c.ensures, c.if-c-here.true)) ∙ ap (min 1) (sym at))

pub returns-else-c-here : goal.returns-else-c-here
returns-else-c-here c =
    let a = c.args in
    nowhere _ _ _ c.if-c-here.false (member-none a.here.now a.large.now a.rank.now a.u a.v c.requires.1.size c.if-u-v.false (omega (arith, c.get-c.ensures, c.if-c-here.false)))
