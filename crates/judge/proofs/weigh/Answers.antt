-- `judge::weigh` meets its contract, case by case of the report's header. Assumes nothing.
use mathlib.Core.Path.{◌≡◌, ◌∙◌, sym}
use native.Mathlib.Omega.{arith}
use Rattle.drawing.specs.Drawing.{darts}
use Rattle.chart.specs.Charts.{drawn}
use Rattle.judge.proofs.Deserving.{bad_form, other, labels_length, labels_right, labels_wrong, cut_right, cut_wrong}
use Rattle.judge.proofs.weigh.Goals as goal

pub returns-in_default : goal.returns-in_default
returns-in_default c = bad_form _ _ c.in_default.ensures

pub returns-in_default-result : goal.returns-in_default-result
returns-in_default-result c =
    other _ _ _ _ c.in-Some.ensures _ c.body_of-body.ensures.result_value (λ z e. c.if-header-chart.false (omega (arith, e, c.args.chart.now.shape.darts))) (λ e. omega (arith, e, c.in-0.is))

pub returns-in_default-result-2 : goal.returns-in_default-result-2
returns-in_default-result-2 c =
    other _ _ _ _ c.in-Some.ensures _ c.body_of-body.ensures.result_value (λ z. absurd (omega arith)) (λ e. omega arith)

pub labels_right-requires : goal.labels_right-requires
labels_right-requires c =
    let p = c.requires in
    let S = c.args.chart.now.shape in
    let h = c.in-Some.header in
    let g = drawn c.args.chart.now in
    let whole : h.count ≡ darts g = omega (arith, c.if-header-chart.true, S.darts) in
    let long = labels_length g _ _ _ c.in-Some.ensures _ c.body_of-body.ensures.result_value c.in-0.is whole in
    record { clear = (p.0, (p.1, long ∙ sym S.darts)); spare_long = (p.2, p.3) }

pub returns-then-labels_right : goal.returns-then-labels_right
returns-then-labels_right c =
    labels_right _ _ _ _ c.in-Some.ensures _ c.body_of-body.ensures.result_value c.in-0.is (c.if-header-chart.true ∙ c.args.chart.now.shape.darts) c.if-labels_right.ensures

pub returns-else-labels_right : goal.returns-else-labels_right
returns-else-labels_right c =
    labels_wrong _ _ _ _ c.in-Some.ensures _ c.body_of-body.ensures.result_value c.in-0.is (c.if-header-chart.true ∙ c.args.chart.now.shape.darts) c.if-labels_right.ensures

pub returns-then-cut_right : goal.returns-then-cut_right
returns-then-cut_right c = cut_right _ _ _ _ c.in-Some.ensures _ c.body_of-body.ensures.result_value (omega (arith, c.in-14.is)) c.if-cut_right.ensures

pub returns-else-cut_right : goal.returns-else-cut_right
returns-else-cut_right c = cut_wrong _ _ _ _ c.in-Some.ensures _ c.body_of-body.ensures.result_value (omega (arith, c.in-14.is)) c.if-cut_right.ensures
