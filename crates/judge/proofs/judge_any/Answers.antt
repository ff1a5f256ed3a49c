-- `judge::judge_any` meets its contract: every chart fits into its tables. Assumes nothing.
use mathlib.Core.Path.{◌≡◌, ap, ◌∙◌}
use Prim.Native.Nat.{ℕ, ◌≤◌}
use native.Mathlib.Omega.{arith}
use lib.ListN.{length, take, replicate, length-replicate}
use Rattle.std.proofs.lemmas.List.{take-replicate}
use Rattle.chart.specs.Charts.{drawn}
use Rattle.judge.proofs.judge_any.Goals as goal

pub judge_drawn-requires-clause-unused : goal.judge_drawn-requires-clause-unused
judge_drawn-requires-clause-unused c =
    let S = c.args.chart.now.shape in
    let v = c.event_count-v.result in
    let w = (drawn c.args.chart.now).events in
    let same : v ≡ w = c.event_count-v.ensures in
    let few : v ≤ 1024 = omega (arith, same, S.events) in
    let part : (x : ℕ) → take v (replicate 1024 x) ≡ replicate w x = λ x. take-replicate v 1024 x few ∙ ap (λ (k : ℕ). replicate k x) same in (
      record {
        corners = take-replicate _ 6144 65535 S.few;
        events = part 65535;
        room = ap length (part 0) ∙ length-replicate w 0;
      },
      (part 0, omega (arith, S.few)),
    )
