-- `judge::judge_drawn` meets its contract: a fault of the drawing, or what the report deserves. Assumes nothing.
use mathlib.Core.Path.{sym, subst, ◌∙◌}
use native.Mathlib.Omega.{arith}
use Rattle.rules.specs.Tests.{Given}
use Rattle.rules.proofs.Chain.{given_append}
use Rattle.chart.specs.Form.{form_tests}
use Rattle.survey.specs.Past.{survey_tests}
use Rattle.survey.proofs.Passing.{survey_clear}
use Rattle.judge.proofs.Answers.{drawn_some, refused_drawn, deserved}
use Rattle.judge.proofs.judge_drawn.Goals as goal

pub returns-in-Err : goal.returns-in-Err
returns-in-Err c =
    let same = c.number.ensures in
    refused_drawn _ _ _ (λ e. drawn_some c.in-Err.fault (sym same ∙ e)) c.requires.formed.1 (subst (Given survey_tests _ 0) (sym same) c.in-Err.ensures.number)

pub weigh-requires : goal.weigh-requires
weigh-requires c =
    let p = c.requires in
    let W = c.in_default.ensures.walked in
    (survey_clear _ p.formed.0 c.in_default.ensures.number, W.keyed, omega (arith, p.unused.1.1, c.check.auto.spare), W.switched)

pub returns : goal.returns
returns c = deserved _ _ _ (given_append form_tests survey_tests _ 0 0 c.requires.formed.1 c.in_default.ensures.number) c.weigh.ensures
